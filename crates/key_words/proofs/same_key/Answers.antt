-- Where the 8 bytes before the key are zero, the others have the number of the word; where not, the word is no key.
use Rattle.std.proofs.Common.{ap, sym, ◌∙◌, eqb, ltb-true, arith}
use Rattle.rules.specs.Words.{num}
use Rattle.limbs.proofs.Limbs.{a_word}
use Rattle.key_words.proofs.KeyWords.{leading-zero, key-number, not_same}
use Rattle.key_words.proofs.same_key.Goals as goal

pub returns-then-is_zero : goal.returns-then-is_zero
returns-then-is_zero c =
    let below = c.is_zero.ensures ∙ leading-zero (a_word c.told-word c.fits-word) 8 (omega arith) in
    c.same.ensures ∙ ap (λ x. eqb x (num c.args.key.now)) (key-number c.key_part.ensures (ltb-true _ _ (sym below ∙ c.if-is_zero.true)))

pub returns-else-is_zero : goal.returns-else-is_zero
returns-else-is_zero c =
    let below = c.is_zero.ensures ∙ leading-zero (a_word c.told-word c.fits-word) 8 (omega arith) in
    c.if-is_zero.false ∙ not_same c.args.word.now c.args.key.now c.told-key c.fits-key (sym below ∙ c.if-is_zero.false)
