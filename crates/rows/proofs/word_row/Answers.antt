-- The type before, the number of the capability, that of the word, then the prefix.
use Rattle.std.proofs.Common.{rules, refl, ◌∙◌}
use borrow.Author.Tests.{le-ltb}
use Rattle.rows.proofs.Rows.{other-type, no-capability, past-count, no_word, word-if}
use Rattle.rows.proofs.word_row.Goals as goal

pub returns-then-before-end_first : goal.returns-then-before-end_first
returns-then-before-end_first c = other-type _ _ _ _ _ c.end_first.ensures c.if-before-end_first.true

pub returns-then-i-lt1 : goal.returns-then-i-lt1
returns-then-i-lt1 c =
    no-capability _ _ _ _ _ c.end_first.ensures c.if-before-end_first.false c.end_second-i.ensures (search rules)

pub returns-then-count-from : goal.returns-then-count-from
returns-then-count-from c =
    past-count _ _ _ _ _ c.end_first.ensures c.if-before-end_first.false c.end_second-i.ensures (search rules) (search rules)

pub returns-then-from-words : goal.returns-then-from-words
returns-then-from-words c =
    word-if _ _ _ _ _ c.end_first.ensures c.if-before-end_first.false c.end_second-i.ensures (search rules) (search rules)
    c.end_third.ensures c.words.ensures.count (search rules) c.args.value.now c.told-value refl
    c.prefix_in_range.ensures

pub returns-else-from-words : goal.returns-else-from-words
returns-else-from-words c = λ kind q.
    le-ltb _ _ (search rules)
    ∙ no_word _ _ _ _ _ c.end_first.ensures c.if-before-end_first.false c.end_second-i.ensures (search rules) (search rules)
    c.end_third.ensures c.words.ensures.count (search rules) kind q
