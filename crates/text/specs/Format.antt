-- A format: how values of a type are printed, and how they are read back with the rest of the text. Formats are put together from smaller ones.
use Rattle.std.specs.Prelude.{ℕ, zero, suc, ◌-◌, ◌^◌, Bool, true, false, if◌then◌else◌}
use mathlib.Core.List.{List, [], ◌∷◌, ◌++◌, flat_map}
use Rattle.std.proofs.Math.Option.{Option, none, some}
use Rattle.text.specs.Text.{newline, decimal, hex, read_literal}
use Rattle.text.specs.Reading.{Reader, give, ◌>>=◌, read_field, read_hex}

pub record Format (A : Type 0) : Type 0 where
  pub print : A → List ℕ
  pub read : Reader A

-- a number of a width in bits, and the byte after it
unfoldable pub number : (width end : ℕ) → Format ℕ
number width end =
    record {
      print = λ n. decimal n ++ (end ∷ []);
      read = read_field (2 ^ width - 1) end;
    }

-- bytes in hexadecimal, and the line's end
unfoldable pub bytes_line : Format (List ℕ)
bytes_line = record { print = λ bs. hex bs ++ (newline ∷ []); read = read_hex }

-- a literal, then a value
unfoldable pub after_literal : {A : Type 0} → List ℕ → Format A → Format A
after_literal cs f =
    record { print = λ a. cs ++ f.print a; read = λ t. read_literal cs t >>= λ u. f.read u }

-- what was read, or else what another reader gives
abbrev pub or_else : {A : Type 0} → Option A → Option A → Option A
or_else none o = o
or_else (some a) o = some a

-- one of two literals: which one it is
unfoldable pub either : (first second : List ℕ) → Format Bool
either first second =
    record {
      print = λ b. if b then first else second;
      read = λ t. or_else (read_literal first t >>= λ u. give true u) (read_literal second t >>= λ u. give false u);
    }

-- nothing is written: always this value
unfoldable pub always : {A : Type 0} → A → Format A
always a = record { print = λ _. []; read = λ t. give a t }

-- one value, then another whose format may go by the first
unfoldable pub pair : {A B : Type 0} → Format A → (A → Format B) → Format (A × B)
pair {A} {B} f g =
    record {
      print = λ p. f.print p.0 ++ (g p.0).print p.1;
      read = λ t. f.read t >>= λ r. (g r.0).read r.1 >>= λ q. give {A = A × B} (r.0, q.0) q.1;
    }

unfoldable pub read_all : {A : Type 0} → Reader A → ℕ → Reader (List A)
read_all r zero t = give [] t
read_all r (suc n) t = r t >>= λ x. read_all r n x.1 >>= λ y. give (x.0 ∷ y.0) y.1

-- n values
unfoldable pub times : {A : Type 0} → ℕ → Format A → Format (List A)
times n f = record { print = flat_map f.print; read = read_all f.read n }

-- values of another type, one for one
unfoldable pub mapped : {A B : Type 0} → (A → B) → (B → A) → Format A → Format B
mapped to from f = record { print = λ b. f.print (from b); read = λ t. f.read t >>= λ r. give (to r.0) r.1 }
