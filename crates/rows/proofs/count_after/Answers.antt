-- A count begins anew; a word changes nothing.
use Rattle.rules.specs.Words.{num}
use Rattle.rows.proofs.Rows.{counted-anew, counted-still}
use Rattle.rows.proofs.count_after.Goals as goal

pub returns-then-is_count : goal.returns-then-is_count
returns-then-is_count c =
    let a = c.args in
    counted-anew a.count (num a.key.now) (num a.stored.now) c.is_count.ensures c.if-is_count.true c.small.ensures

pub returns-else-is_count : goal.returns-else-is_count
returns-else-is_count c =
    let a = c.args in
    counted-still a.count (num a.key.now) (num a.stored.now) c.is_count.ensures c.if-is_count.false
