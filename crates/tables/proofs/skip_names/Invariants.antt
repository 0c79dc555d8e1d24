use Rattle.tables.specs.Reading.{read_name}
use Rattle.tables.proofs.Endings.{Gathering}
use Rattle.tables.proofs.skip_names.Given as goal

abbrev pub invariant-loop : goal.invariant-loop
invariant-loop l = Gathering read_name l.s l.at l.count l.k l.counter (λ _. Unit)
