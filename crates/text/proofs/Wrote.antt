-- Texts written one after another. Assumes nothing.
use Prim.Native.Nat.{ℕ, ◌+◌, ◌≤◌}
use mathlib.Core.List.{List, [], ◌++◌}
use mathlib.Core.Path.{◌≡◌, refl, ap, ◌∙◌}
use lib.ListN.{length, length-append}
use native.Mathlib.Omega.{arith}
use Rattle.text.specs.Inner.Puts.{Puts}
use Rattle.text.proofs.Putting.{puts-puts, puts-at, puts_none, puts-length}
use Rattle.text.specs.Inner.Wrote.{Wrote}
use Rattle.text.specs.declared.output.Out.{Out}

-- x is written, and there is room for the rest
pub record Writes (o o' : Out) (x rest : List ℕ) : Type 0 where
  pub loan : o'.page.ghost_name ≡ o.page.ghost_name
  pub puts : Puts o.page.now o'.page.now o.at o'.at x
  pub same : length o'.page.now ≡ length o.page.now
  pub left : o'.at + length rest ≤ length o'.page.now

pub writes-begin : (o : Out) (t u : List ℕ) → u ≡ t → o.at + length t ≤ length o.page.now → Writes o o [] u
writes-begin o t u e h = record { loan = refl; puts = puts_none o.page.now o.at (omega arith); same = refl; left = omega (arith, ap length e) }

module _ {o o' : Out} {x : List ℕ} (y z : List ℕ) (w : Writes o o' x (y ++ z)) where
  pub writes-room : o'.at + length y ≤ length o'.page.now
  writes-room = omega (arith, w.left, length-append y z)

  pub writes-more : {o'' : Out} → Wrote o' o'' y → Writes o o'' (x ++ y) z
  writes-more {o''} q =
      let m : length o''.page.now ≡ length o'.page.now = puts-length q.puts writes-room in
      record {
        loan = q.loan ∙ w.loan;
        puts = puts-puts w.puts q.puts (omega (arith, w.puts.next, w.left, w.same, length-append y z));
        same = m ∙ w.same;
        left = omega (arith, w.left, q.puts.next, m, length-append y z);
      }

pub writes-end : {o o' : Out} {x : List ℕ} (z t : List ℕ) → Writes o o' x z → x ≡ t → Wrote o o' t
writes-end z t w e = record { loan = w.loan; puts = puts-at w.puts refl e }

pub writes-all : {o o' : Out} {x : List ℕ} (z u t : List ℕ) → Writes o o' x z → x ≡ u → u ≡ t → Wrote o o' t
writes-all z u t w e f = writes-end z t w (e ∙ f)

pub wrote-length : {o o' : Out} {x : List ℕ} → Wrote o o' x → o.at + length x ≤ length o.page.now → length o'.page.now ≡ length o.page.now
wrote-length q h = puts-length q.puts h
