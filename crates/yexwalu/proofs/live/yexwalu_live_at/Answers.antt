-- `yexwalu::live::yexwalu_live_at` meets its contract.
use Rattle.yexwalu.proofs.LiveCalls.{live-at-told}
use Rattle.yexwalu.proofs.live.yexwalu_live_at.Goals as goal

pub returns : goal.returns
returns c = live-at-told c.live_at-reply.ensures c.tracked.ensures c.from.ensures
