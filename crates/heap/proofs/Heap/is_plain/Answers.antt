-- `Heap::is_plain` meets its contract.
use Rattle.heap.proofs.Headers.{same_tag, other_tag}
use Rattle.heap.proofs.Heap.is_plain.Goals as goal

pub returns-then-self-tag : goal.returns-then-self-tag
returns-then-self-tag c = λ l e w. same_tag l w e c.args.tag c.if-self-tag.true

pub returns-else-self-tag : goal.returns-else-self-tag
returns-else-self-tag c = λ l e w. other_tag l w e c.args.tag c.if-self-tag.false
