-- `yexwalu::live::yexwalu_live_refs` meets its contract.
use Rattle.yexwalu.proofs.LiveCalls.{live-refs-told}
use Rattle.yexwalu.proofs.live.yexwalu_live_refs.Goals as goal

pub returns : goal.returns
returns c = live-refs-told c.live_refs-reply.ensures c.tracked.ensures c.from.ensures
