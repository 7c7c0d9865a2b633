-- The leading bytes are zero where the number is below a power of 256.
use Rattle.std.proofs.Common.{ap, ◌∙◌, not}
use mathlib.Core.Bool.{and-true, and-false}
use Rattle.limbs.proofs.Limbs.{a_word}
use Rattle.key_words.proofs.KeyWords.{leading-zero, not-zero}
use Rattle.key_words.proofs.stands_right.Goals as goal

pub returns-then-is_zero : goal.returns-then-is_zero
returns-then-is_zero c =
    let below = c.is_zero.ensures ∙ leading-zero (a_word c.told-word c.fits-word) c.args.leading c.requires in
    rw (← below, c.if-is_zero.true, and-true) (ap not c.is_zero-then-is_zero.ensures ∙ not-zero _)

pub returns-else-is_zero : goal.returns-else-is_zero
returns-else-is_zero c =
    let below = c.is_zero.ensures ∙ leading-zero (a_word c.told-word c.fits-word) c.args.leading c.requires in
    rw (← below, c.if-is_zero.false, and-false)
