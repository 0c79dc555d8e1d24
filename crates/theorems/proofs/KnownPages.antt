-- What a call without a check answers is what the public call answers (specs/KnownPages). Assumes nothing.
use Prim.Native.Nat.{ℕ}
use mathlib.Core.Bool.{Bool, true}
use mathlib.Core.List.{List, [], ◌∷◌}
use mathlib.Core.Path.{◌≡◌, sym, ap, ◌∙◌}
use lib.ListN.{length}
use Rattle.word.specs.Result.{ok}
use Rattle.refusal.specs.Told.{answered, here, nothing}
use Rattle.refusal.specs.declared.Answer.{Answer}
use Rattle.heap.specs.Lent.{Lent, view}
use Rattle.heap.specs.WellFormed.{well_formed}
use Rattle.door.specs.HeapCalls.{Entry, admitted, asked, heap_tests, ready, whether, zeros}
use Rattle.door.proofs.Entering.{is-enough, asking-ready}
use Rattle.pages.specs.Form.{written}
use Rattle.pages.specs.Page.{page_text}
use Rattle.pages.specs.Answer.{text_answer, text_out}
use Rattle.theorems.specs.PageCalls.{Scratch}
use Rattle.theorems.specs.KnownPages.{KnownWritten, KnownMeasured}
use Rattle.theorems.proofs.PageWriting.{is-ready}

module _ (l : Lent) (p : Bool) (f : well_formed l ≡ true) (marks work : List ℕ) (s : Scratch l marks work) where
  admits : admitted (heap_tests marks work l) ≡ ready
  admits = is-ready marks work l (is-enough marks work l s.marks s.work) f

pub known_written : KnownWritten
known_written l p out r out' f k marks work s =
    let e = admits l p f marks work s in
    record {
      told =
          ap (λ (a : Answer). asked a (zeros marks) (zeros work)) k.answer
          ∙ sym (asking-ready here nothing (marks ∷ work ∷ []) (heap_tests marks work l) l (λ h. text_answer (page_text (written p) h) out) e);
      page = k.page ∙ sym (ap (λ (x : Entry). whether x (λ why. out) (text_out (page_text (written p) (view l)) out)) e);
    }

pub known_measured : KnownMeasured
known_measured l p r f k marks work s =
    ap (λ (a : Answer). asked a (zeros marks) (zeros work)) k
    ∙ sym (asking-ready here nothing (marks ∷ work ∷ []) (heap_tests marks work l) l (λ h. ok (length (page_text (written p) h))) (admits l p f marks work s))
