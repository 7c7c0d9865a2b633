-- The two keys, then the address, then the place that the index names.
use Rattle.std.proofs.Common.{arith, sym, ◌∙◌, true≢false}
use Rattle.lists.proofs.LaidRows.{laid-within, laid-small}
use Rattle.heads.proofs.HeadRows.{no-head, no_address, index-if}
use Rattle.heads.proofs.head_rows.Goals as goal
use Rattle.heads.proofs.head_rows.Goals.{then-begin, else-begin}

pub overflow_mul-i : goal.overflow_mul-i
overflow_mul-i c = omega (arith, laid-small c.requires.laid)

pub word_at-key-requires : goal.word_at-key-requires
word_at-key-requires c = omega (arith, laid-within c.requires.laid)

pub word_at-requires : goal.word_at-requires
word_at-requires c = omega (arith, laid-within c.requires.laid)

pub word_at-requires-then-is_address : goal.word_at-requires-then-is_address
word_at-requires-then-is_address c = omega (arith, laid-within c.requires.laid)

pub returns-then-is_address : goal.returns-then-is_address
returns-then-is_address c =
    elim c.if-begin.branch [
      | then-begin w ↦
          index-if c.args.table.bytes.now c.args.i c.word_at-key.ensures c.word_at.ensures c.begin.ensures w.if-begin.true
          w.word_at-then-begin.ensures w.is_address.ensures (sym w.value-is ∙ c.if-is_address.true) c.word_at-then-is_address.ensures
          c.middle_of.ensures c.names.ensures
      | else-begin w ↦ absurd (true≢false (sym c.if-is_address.true ∙ w.value-is ∙ w.if-begin.false))
    ]

pub returns-else-is_address : goal.returns-else-is_address
returns-else-is_address c =
    c.if-is_address.false
    ∙ elim c.if-begin.branch [
      | then-begin w ↦
          no_address c.args.table.bytes.now c.args.i c.word_at-key.ensures c.word_at.ensures c.begin.ensures w.if-begin.true
          w.word_at-then-begin.ensures w.is_address.ensures (sym w.value-is ∙ c.if-is_address.false)
      | else-begin w ↦ no-head c.args.table.bytes.now c.args.i c.word_at-key.ensures c.word_at.ensures c.begin.ensures w.if-begin.false
    ]
