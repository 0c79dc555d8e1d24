-- When two headers, and two heaps in lent memory, are equal, as tests. That the test passes exactly if they are is `lent-tested` and `lent-test` (proofs/Testing.antt).
use Rattle.std.specs.Prelude.{Bool, ◌&&◌, ◌==◌}
use Rattle.word.specs.Same.{same_list}
use Rattle.heap.specs.Lent.{Lent}
use Rattle.heap.specs.declared.Heap.{Heap}

-- equal headers, equal lent memory
unfoldable pub same_header : Heap → Heap → Bool
same_header a b =
    (a.tag == b.tag) && a.since_gc == b.since_gc && a.reclaim_at == b.reclaim_at
    && a.live_bytes == b.live_bytes && a.epoch == b.epoch && same_list a.log b.log
    && a.slots == b.slots && a.free == b.free && a.quarantine == b.quarantine
    && a.retired == b.retired && a.sealed == b.sealed

unfoldable pub same_lent : Lent → Lent → Bool
same_lent a b =
    same_header a.header b.header && a.count == b.count
    && same_list a.generation b.generation && same_list a.kind b.kind && same_list a.type b.type
    && same_list a.start b.start && same_list a.end b.end && same_list a.writes b.writes
    && same_list a.pool b.pool
    && same_list a.free b.free && same_list a.quarantine b.quarantine && same_list a.sealed b.sealed
    && same_list a.retired b.retired && same_list a.over b.over
