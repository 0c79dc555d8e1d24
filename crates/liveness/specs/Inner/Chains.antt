-- Chains of blocks by the remainder of one of their two words by 4,096.
use Rattle.std.specs.Prelude.{◌≡◌, List, ℕ, ◌+◌, ◌*◌, ◌%◌, ◌≤◌, ◌<◌, length, get_or}

-- c is the first of i, i + 1, .. that has P, if it is below n; otherwise none of them below n has it
pub record First (P : ℕ → Type 0) (i n c : ℕ) : Type 0 where
  pub low : i ≤ c
  pub none : (j : ℕ) → i ≤ j → j < c → j < n → P j → ⊥
  pub here : c < n → P c

-- block b is not empty, and its word w is x: word 0 is its start, word 1 its end
abbrev pub Keyed : List ℕ → ℕ → ℕ → ℕ → Type 0
Keyed bs w x b = (get_or bs (2 * b) 0 < get_or bs (2 * b + 1) 0) × (get_or bs (2 * b + w) 0 ≡ x)

-- the same with its word w in bucket k of 4,096
abbrev pub Bucketed : List ℕ → ℕ → ℕ → ℕ → Type 0
Bucketed bs w k b = (get_or bs (2 * b) 0 < get_or bs (2 * b + 1) 0) × (get_or bs (2 * b + w) 0 % 4096 ≡ k)

-- the blocks from b on, in a chain for each bucket of their word w: the head is the first of them, and the link of a block the next one after it
pub record Chains (bs : List ℕ) (w nb b : ℕ) (heads links : List ℕ) : Type 0 where
  pub many : length heads ≡ 4096
  pub room : length links ≡ 4096
  pub few : nb ≤ 4096
  pub head : (k : ℕ) → k < 4096 → First (Bucketed bs w k) b nb (get_or heads k 0)
  pub link : (j : ℕ) → b ≤ j → j < nb → get_or bs (2 * j) 0 < get_or bs (2 * j + 1) 0 → First (Bucketed bs w (get_or bs (2 * j + w) 0 % 4096)) (j + 1) nb (get_or links j 0)
