-- By how many words the type has: none, one, or two behind each other.
use Rattle.std.proofs.Common.{arith, sym, ◌∙◌, rules}
use Rattle.holding.proofs.HeldWords.{read_none, read_one, read-two}
use Rattle.holding.proofs.read_words.Goals as goal

pub returns-then-count-eq0 : goal.returns-then-count-eq0
returns-then-count-eq0 c =
    read_none c.args.table.bytes.now (search rules) c.args.to.now (search rules)
    (sym c.if-count-eq0.true ∙ c.words-count.ensures.count)

pub returns-then-count-eq1 : goal.returns-then-count-eq1
returns-then-count-eq1 c =
    read_one c.args.table.bytes.now (search rules) c.args.to.now (search rules)
    c.word_slot-first.ensures c.look_near-next.ensures (sym c.if-count-eq1.true ∙ c.words-count.ensures.count)

pub returns : goal.returns
returns c =
    let count = c.words-count.ensures.count in
    read-two c.args.table.bytes.now (search rules) c.args.to.now (search rules)
    c.word_slot-first.ensures c.look_near-next.ensures c.word_slot-second.ensures c.look_near.ensures (omega (arith, count))
