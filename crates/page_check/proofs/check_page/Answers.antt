use mathlib.Core.Bool.{◌&&◌}
use mathlib.Core.Path.{◌≡◌, refl, sym, ap, ◌∙◌}
use Prim.Native.Nat.{ℕ}
use lib.ListN.{replicate}
use native.Mathlib.Omega.{arith}
use Rattle.page_check.proofs.Verdict.{not-17, sizes-1, sound-1, room-6, full-5, accepted, sound-is, is-page, is_none, sizes-on}
use borrow.Author.Rules.{rules}
use Rattle.page_check.proofs.check_page.Goals as goal
use Rattle.page_check.proofs.check_page.Goals.{then-sizes, else-sizes}

pub returns-in_default : goal.returns-in_default
returns-in_default c = record { checking = search (not-17, is_none); work_after = search rules }

pub returns-then-not-x : goal.returns-then-not-x
returns-then-not-x c =
    let both : c.if-sizes.value ≡ (c.args.sizes && c.in-Some.x.sound) =
    elim c.if-sizes.branch [
      | then-sizes w ↦ w.value-is ∙ (λ i. sym w.if-sizes.true i && c.in-Some.x.sound)
      | else-sizes w ↦ w.value-is ∙ w.if-sizes.false ∙ (λ i. sym w.if-sizes.false i && c.in-Some.x.sound)
    ] in
    record { checking = sizes-1 _ _ (is-page _ _ c.parse_page.ensures c.in-Some.is) _ _ c.args.sizes both c.if-not-x.true; work_after = search rules }

pub invariant_of-page : goal.invariant_of-page
invariant_of-page c = record { sectioned = is-page _ _ c.parse_page.ensures c.in-Some.is }

pub partition-once-requires : goal.partition-once-requires
partition-once-requires c =
    let both : c.if-sizes.value ≡ (c.args.sizes && c.in-Some.x.sound) =
    elim c.if-sizes.branch [
      | then-sizes w ↦ w.value-is ∙ (λ i. sym w.if-sizes.true i && c.in-Some.x.sound)
      | else-sizes w ↦ w.value-is ∙ w.if-sizes.false ∙ (λ i. sym w.if-sizes.false i && c.in-Some.x.sound)
    ] in
    omega (arith, c.requires (sizes-on _ _ both c.if-not-x.false), c.fill.auto.self)

pub returns-then-not-once : goal.returns-then-not-once
returns-then-not-once c =
    let both : c.if-sizes.value ≡ (c.args.sizes && c.in-Some.x.sound) =
    elim c.if-sizes.branch [
      | then-sizes w ↦ w.value-is ∙ (λ i. sym w.if-sizes.true i && c.in-Some.x.sound)
      | else-sizes w ↦ w.value-is ∙ w.if-sizes.false ∙ (λ i. sym w.if-sizes.false i && c.in-Some.x.sound)
    ] in
    let p = is-page _ _ c.parse_page.ensures c.in-Some.is in record { checking = sound-1 _ _ p _ _ c.args.sizes both c.if-not-x.false (sound-is _ _ p c.args.sizes both c.if-not-x.false c.partition-once.ensures) c.if-not-once.true; work_after = (c.fill-2.ensures.after (λ y e. e)) ∙ ap (λ (m : ℕ). replicate m 0) (c.partition-once.auto.row ∙ c.fill.auto.self) }

pub returns-then-room-x : goal.returns-then-room-x
returns-then-room-x c =
    let both : c.if-sizes.value ≡ (c.args.sizes && c.in-Some.x.sound) =
    elim c.if-sizes.branch [
      | then-sizes w ↦ w.value-is ∙ (λ i. sym w.if-sizes.true i && c.in-Some.x.sound)
      | else-sizes w ↦ w.value-is ∙ w.if-sizes.false ∙ (λ i. sym w.if-sizes.false i && c.in-Some.x.sound)
    ] in
    let p = is-page _ _ c.parse_page.ensures c.in-Some.is in record { checking = room-6 _ _ p _ _ c.args.sizes both c.if-not-x.false (sound-is _ _ p c.args.sizes both c.if-not-x.false c.partition-once.ensures) c.if-not-once.false c.if-room-x.true; work_after = (c.fill-2.ensures.after (λ y e. e)) ∙ ap (λ (m : ℕ). replicate m 0) (c.partition-once.auto.row ∙ c.fill.auto.self) }

pub shape_of-work-then-lent-x : goal.shape_of-work-then-lent-x
shape_of-work-then-lent-x c = c.fill-2.auto.self ∙ c.partition-once.auto.row ∙ c.fill.auto.self

pub returns-then-lent-x : goal.returns-then-lent-x
returns-then-lent-x c =
    let both : c.if-sizes.value ≡ (c.args.sizes && c.in-Some.x.sound) =
    elim c.if-sizes.branch [
      | then-sizes w ↦ w.value-is ∙ (λ i. sym w.if-sizes.true i && c.in-Some.x.sound)
      | else-sizes w ↦ w.value-is ∙ w.if-sizes.false ∙ (λ i. sym w.if-sizes.false i && c.in-Some.x.sound)
    ] in
    let p = is-page _ _ c.parse_page.ensures c.in-Some.is in record { checking = full-5 _ _ p _ _ c.args.sizes both c.if-not-x.false (sound-is _ _ p c.args.sizes both c.if-not-x.false c.partition-once.ensures) c.if-not-once.false c.if-room-x.false c.if-lent-x.true; work_after = (c.fill-2.ensures.after (λ y e. e)) ∙ ap (λ (m : ℕ). replicate m 0) (c.partition-once.auto.row ∙ c.fill.auto.self) }

pub shape_of-work : goal.shape_of-work
shape_of-work c = c.fill-2.auto.self ∙ c.partition-once.auto.row ∙ c.fill.auto.self

pub returns : goal.returns
returns c =
    let both : c.if-sizes.value ≡ (c.args.sizes && c.in-Some.x.sound) =
    elim c.if-sizes.branch [
      | then-sizes w ↦ w.value-is ∙ (λ i. sym w.if-sizes.true i && c.in-Some.x.sound)
      | else-sizes w ↦ w.value-is ∙ w.if-sizes.false ∙ (λ i. sym w.if-sizes.false i && c.in-Some.x.sound)
    ] in
    let p = is-page _ _ c.parse_page.ensures c.in-Some.is in record { checking = (refl, accepted _ _ p _ _ c.args.sizes both c.if-not-x.false (sound-is _ _ p c.args.sizes both c.if-not-x.false c.partition-once.ensures) c.if-not-once.false c.if-room-x.false c.if-lent-x.false); work_after = (c.fill-2.ensures.after (λ y e. e)) ∙ ap (λ (m : ℕ). replicate m 0) (c.partition-once.auto.row ∙ c.fill.auto.self) }
