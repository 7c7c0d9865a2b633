-- The place of the count is within the table, so the place behind it is a number.
-- The rest is what `read_count` promises.
use Rattle.std.proofs.Common.{◌≤◌, length, arith}
use Rattle.rules.specs.Table.{store}
use Rattle.laws.proofs.TableRecords.{formed-within}
use Rattle.finding.proofs.Places.{below_length}
use Rattle.held.proofs.count_and_next.Goals as goal

pub overflow_add-result : goal.overflow_add-result
overflow_add-result c =
    let table = c.args.table.bytes.now in
    let inside : c.read_count-count.result.place ≤ length (store table)
    = rw c.read_count-count.ensures.place (below_length (store table) _) in
    omega (arith, inside, formed-within table c.args.table.form)
