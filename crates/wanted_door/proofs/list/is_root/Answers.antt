-- `wanted_door::list::is_root` meets its contract.
use Rattle.wanted_door.proofs.Meeting.{root-at}
use Rattle.wanted_door.proofs.list.is_root.Goals as goal

pub returns : goal.returns
returns c = root-at c.args.work.now c.args.w
