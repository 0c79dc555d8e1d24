-- `liveness::fixpoint::build` meets its contract.
use native.Mathlib.Omega.{arith}
use mathlib.Core.Path.{refl}
use Rattle.code.proofs.Plans.{few-blocks}
use Rattle.liveness.proofs.Chaining.{chains-none}
use Rattle.liveness.proofs.fixpoint.build.Goals as goal

pub chain-requires : goal.chain-requires
chain-requires c = (few-blocks c.args.plan.now, omega arith, chains-none _ _ _ 4096 _ _ refl refl refl (few-blocks c.args.plan.now))

pub start_blocks-requires : goal.start_blocks-requires
start_blocks-requires c = record { nb_value = (c.requires.nb_value.0, c.requires.nb_value.1, c.chain.ensures); by_index_2 = c.requires.by_index_2 }
