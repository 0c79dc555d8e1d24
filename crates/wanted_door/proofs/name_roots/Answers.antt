-- `wanted_door::name_roots` meets its contract.
use mathlib.Core.List.{map}
use Rattle.mark.specs.Inner.Scratch.{high}
use Rattle.wanted.specs.Search.{noted}
use Rattle.wanted_door.proofs.Naming.{name-short, name-wrote}
use Rattle.std.specs.Prelude.{filter}
use Rattle.wanted_door.proofs.name_roots.Goals as goal

pub returns-then-out-n : goal.returns-then-out-n
returns-then-out-n c = name-short c.args.tag c.args.narrow.now (filter (noted 2 (map high c.args.work.now)) c.args.wanted.now) c.args.out.now _ c.count_roots-n.ensures c.if-out-n.true

pub returns : goal.returns
returns c = name-wrote c.args.tag c.args.narrow.now (filter (noted 2 (map high c.args.work.now)) c.args.wanted.now) c.args.out.now _ c.count_roots-n.ensures c.if-out-n.false _ c.write_roots.ensures
