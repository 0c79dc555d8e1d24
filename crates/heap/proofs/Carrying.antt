-- What a view answered holds of what lies there, and the sizes of the memory after a call. Assumes nothing.
use Rattle.std.proofs.Common.{◌≡◌, ℕ, ◌+◌, ◌-◌, Bool, true, leb, List, length, sym, subst}
use Rattle.word.specs.Result.{Result}
use Rattle.heap.specs.State.{State, slot_at, live, data_size}
use Rattle.heap.specs.Lent.{Lent, view, slot_count, pool_size}
use Rattle.heap.specs.Calls.{resolve}
use Rattle.heap.specs.Done.{Leaves}
use Rattle.heap.proofs.Sound.{Sound}
use Rattle.heap.proofs.Placing.{count-is, pool-long}

pub resolved-there : (x : ℕ) (y : Result ℕ) {l₀ l : Lent} → l₀ ≡ l → y ≡ resolve (view l₀) x → y ≡ resolve (view l) x
resolved-there x y e s = subst (λ (k : Lent). y ≡ resolve (view k) x) e s

pub fit-there : (i n : ℕ) (z : Bool) {l₀ l : Lent} → l₀ ≡ l → z ≡ leb (data_size (view l₀).slots - length (slot_at (view l₀) i).bytes + n) (pool_size l₀)
    → z ≡ leb (data_size (view l).slots - length (slot_at (view l) i).bytes + n) (pool_size l)
fit-there i n z e q = subst (λ (k : Lent). z ≡ leb (data_size (view k).slots - length (slot_at (view k) i).bytes + n) (pool_size k)) e q

pub room-there : (n : ℕ) {l₀ l : Lent} → l₀ ≡ l → n ≡ pool_size l₀ - data_size (view l₀).slots → n ≡ pool_size l - data_size (view l).slots
room-there n e q = subst (λ (k : Lent). n ≡ pool_size k - data_size (view k).slots) e q

-- and what holds there is told of by the view
pub alive-there : (i : ℕ) {l₀ l : Lent} → l₀ ≡ l → live (slot_at (view l) i) ≡ true → live (slot_at (view l₀) i) ≡ true
alive-there i e h = subst (λ (k : Lent). live (slot_at (view k) i) ≡ true) (sym e) h

pub bytes-there : (i : ℕ) (b : List ℕ) {l₀ l : Lent} → l₀ ≡ l → b ≡ (slot_at (view l₀) i).bytes → b ≡ (slot_at (view l) i).bytes
bytes-there i b e q = subst (λ (k : Lent). b ≡ (slot_at (view k) i).bytes) e q

pub start-there : (i n : ℕ) {l₀ l : Lent} → l₀ ≡ l → n ≡ (slot_at (view l₀) i).start → n ≡ (slot_at (view l) i).start
start-there i n e q = subst (λ (k : Lent). n ≡ (slot_at (view k) i).start) e q

-- ---- what a call leaves lies in as much memory

pub kept-sizes : (l l' : Lent) (h : State) → Leaves l l' h → Sound (slot_count l) (pool_size l) h → (slot_count l' ≡ slot_count l) × (pool_size l' ≡ pool_size l)
kept-sizes l l' h d s =
    (count-is (slot_count l) (pool_size l) h l' d.lies s.slots-fit s.data-fit, pool-long (slot_count l) (pool_size l) h l' d.lies s.slots-fit s.data-fit)
