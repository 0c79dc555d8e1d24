-- `liveness::chains::hang` meets its contract.
use native.Mathlib.Omega.{arith}
use mathlib.Core.Path.{refl}
use Rattle.liveness.proofs.Chaining.{chains-empty, chains-hang}
use Rattle.liveness.proofs.chains.BlockChains.hang.Goals as goal

pub returns-then-e-st : goal.returns-then-e-st
returns-then-e-st c = chains-empty c.requires.3 c.requires.2 _ _ refl refl (omega (arith, c.if-e-st.true))

pub returns : goal.returns
returns c = chains-hang c.requires.3 c.requires.2 _ _ refl refl _ _ refl refl (omega (arith, c.if-e-st.false))
