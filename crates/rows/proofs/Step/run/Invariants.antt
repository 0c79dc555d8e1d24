use Rattle.rows.proofs.AtPlaces.{At}
use Rattle.rows.proofs.Step.run.Given as goal

abbrev pub invariant-loop-i : goal.invariant-loop-i
invariant-loop-i l = At 64 l.initial.scratch l.words l.live l.made l.out l.kill l.scratch l.changed l.i
