-- The bytes before the number are the list length's; the number and the end are a quotient and a remainder of the key.
use Rattle.std.proofs.lemmas.Bool.{eqb-false}
use Rattle.std.proofs.Common.{ap, sym, ◌∙◌, ℕ, ◌/◌, ◌^◌, ◌<◌, get_or, eqb-true, true≢false}
use Rattle.lists.proofs.PlaceKeys.{front_read, number_read, end_read, other-front, other-number, end-decides}
use Rattle.lists.proofs.is_place_key.Goals as goal
use Rattle.lists.proofs.is_place_key.Goals.{then-same, else-same}

pub returns-then-limb-n : goal.returns-then-limb-n
returns-then-limb-n c =
    let key = c.args.key.now in
    let fits : (i : ℕ) → get_or key i 0 < 256 = c.fits-key in
    elim c.if-same.branch [
      | then-same w ↦
          end-decides _ _ c.requires.1 (front_read key c.told-key fits)
          (front_read c.args.start.now c.told-start c.fits-start ∙ ap (λ (x : ℕ). x / 256 ^ 7) c.requires.0)
          c.same.ensures w.if-same.true (w.limb.ensures.is ∙ number_read key c.told-key fits)
          (eqb-true _ _ (sym w.value-is ∙ c.if-limb-n.true)) (end_read key c.told-key fits) c.is_zero.ensures
      | else-same w ↦ absurd (true≢false (sym c.if-limb-n.true ∙ w.value-is ∙ w.if-same.false))
    ]

pub returns-else-limb-n : goal.returns-else-limb-n
returns-else-limb-n c =
    let key = c.args.key.now in
    let fits : (i : ℕ) → get_or key i 0 < 256 = c.fits-key in
    c.if-limb-n.false
    ∙ elim c.if-same.branch [
      | then-same w ↦
          other-number _ _ c.requires.1 (front_read key c.told-key fits)
          (front_read c.args.start.now c.told-start c.fits-start ∙ ap (λ (x : ℕ). x / 256 ^ 7) c.requires.0)
          c.same.ensures w.if-same.true (w.limb.ensures.is ∙ number_read key c.told-key fits)
          (eqb-false _ _ (sym w.value-is ∙ c.if-limb-n.false))
      | else-same w ↦
          other-front _ _ c.requires.1 (front_read key c.told-key fits)
          (front_read c.args.start.now c.told-start c.fits-start ∙ ap (λ (x : ℕ). x / 256 ^ 7) c.requires.0)
          c.same.ensures w.if-same.false
    ]
