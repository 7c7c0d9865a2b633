-- Where the bytes before the last limb are zero, the limb is the number; where not, the number is 2^32 or more.
use Rattle.std.proofs.Common.{rules, sym, ◌∙◌}
use Rattle.limbs.proofs.Limbs.{a_word}
use Rattle.words.proofs.LastLimb.{is-small, not-small}
use Rattle.words.proofs.small.Goals as goal

pub returns-then-is_zero : goal.returns-then-is_zero
returns-then-is_zero c =
    let w = a_word (search rules) (λ k. search rules) in
    is-small w (sym c.is_zero.ensures ∙ c.if-is_zero.true) c.limb.ensures

pub returns-else-is_zero : goal.returns-else-is_zero
returns-else-is_zero c =
    let w = a_word (search rules) (λ k. search rules) in
    not-small w (sym c.is_zero.ensures ∙ c.if-is_zero.false)
