-- The end is a remainder of the key's number; without its last byte a key is a quotient.
use Rattle.std.proofs.Common.{sym, ◌∙◌, true≢false}
use Rattle.lists.proofs.PlaceKeys.{end_read}
use Rattle.heads.proofs.HeadRows.{most-read, last-read, not_zeros, not_behind, behind-if}
use Rattle.heads.proofs.begin.Goals as goal
use Rattle.heads.proofs.begin.Goals.{then-is_zero, else-is_zero}

pub returns-then-same : goal.returns-then-same
returns-then-same c =
    let key = c.args.key.now in
    let next = c.args.next.now in
    elim c.if-is_zero.branch [
      | then-is_zero w ↦
          behind-if _ _ (end_read key c.told-key c.fits-key) c.is_zero.ensures w.if-is_zero.true
          (most-read next c.told-next c.fits-next)
          (most-read key c.told-key c.fits-key) w.same.ensures (sym w.value-is ∙ c.if-same.true)
          (last-read next c.told-next c.fits-next)
      | else-is_zero w ↦ absurd (true≢false (sym c.if-same.true ∙ w.value-is ∙ w.if-is_zero.false))
    ]

pub returns-else-same : goal.returns-else-same
returns-else-same c =
    let key = c.args.key.now in
    let next = c.args.next.now in
    c.if-same.false
    ∙ elim c.if-is_zero.branch [
      | then-is_zero w ↦
          not_behind _ _ (end_read key c.told-key c.fits-key) c.is_zero.ensures w.if-is_zero.true
          (most-read next c.told-next c.fits-next)
          (most-read key c.told-key c.fits-key) w.same.ensures (sym w.value-is ∙ c.if-same.false)
      | else-is_zero w ↦
          not_zeros _ _ (end_read key c.told-key c.fits-key) c.is_zero.ensures w.if-is_zero.false
    ]
