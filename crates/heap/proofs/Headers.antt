-- What the header of a well formed heap says of the heap. Assumes nothing.
use Rattle.std.proofs.Common.{◌≡◌, ℕ, max, true, eqb, ltb, leb, length, sym, ap, ◌∙◌, eq-eqb, ne_eqb}
use Rattle.heap.specs.Lent.{Lent, view, header_of}
use Rattle.heap.specs.WellFormed.{well_formed}
use Rattle.heap.specs.Calls.{gc_due, reclaim_due, has_quarantine, is_plain}
use Rattle.heap.specs.declared.Heap.{Heap}
use Rattle.heap.proofs.Columns.{knows}

module _ (l : Lent) (w : well_formed l ≡ true) {h : Heap} (e : l.header ≡ h) where
  -- a number of the header, by the heap that lies there
  told : {A : Type 0} (f : Heap → A) → f h ≡ f (header_of (view l))
  told f = ap f (sym e ∙ (knows l w).header)

  pub gc-says : (t : ℕ) → ltb (max t h.live_bytes) h.since_gc ≡ gc_due (view l) t
  unfolding header_of
  gc-says t = λ j. ltb (max t (told (λ (x : Heap). x.live_bytes) j)) (told (λ (x : Heap). x.since_gc) j)

  pub reclaim-says : leb h.reclaim_at h.quarantine ≡ reclaim_due (view l)
  unfolding header_of
  reclaim-says = λ j. leb (told (λ (x : Heap). x.reclaim_at) j) (told (λ (x : Heap). x.quarantine) j)

  pub quarantine-says : ltb 0 h.quarantine ≡ has_quarantine (view l)
  unfolding header_of
  quarantine-says = ap (ltb 0) (told (λ (x : Heap). x.quarantine))

  pub other_tag : (t : ℕ) → (h.tag ≡ t → ⊥) → eqb h.tag t ≡ is_plain (view l) t
  unfolding header_of
  other_tag t n = simp (ne_eqb h.tag t n, ne_eqb (view l).tag t (λ y. n (told (λ (x : Heap). x.tag) ∙ y)))

  pub same_tag : (t : ℕ) → h.tag ≡ t → eqb h.sealed 0 ≡ is_plain (view l) t
  unfolding header_of
  same_tag t y = simp (eq-eqb (view l).tag t (sym (told (λ (x : Heap). x.tag)) ∙ y), told (λ (x : Heap). x.sealed))

  pub slots-say : h.slots ≡ length (view l).slots
  unfolding header_of
  slots-say = told (λ (x : Heap). x.slots)
