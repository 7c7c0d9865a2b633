-- A count is judged as a whole word; any other record is a word.
use Rattle.rows.proofs.Rows.{count-if, word-row-if}
use Rattle.rows.proofs.kind_row.Goals as goal

pub returns-then-is_count : goal.returns-then-is_count
returns-then-is_count c = count-if _ _ _ _ _ c.is_count.ensures c.if-is_count.true c.small.ensures

pub returns-else-is_count : goal.returns-else-is_count
returns-else-is_count c = word-row-if _ _ _ _ _ c.is_count.ensures c.if-is_count.false c.word_row.ensures
