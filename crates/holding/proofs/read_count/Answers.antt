-- What stands at the count's record is the count, and `small` answers for it; where there is no record, the count is 0.
use Rattle.std.proofs.Common.{refl, arith, rules}
use Rattle.rules.specs.Words.{num}
use Rattle.finding.proofs.Finding.{found, found-inside, missed}
use Rattle.holding.proofs.HeldWords.{counted, counted_none}
use Rattle.holding.proofs.read_count.Goals as goal

pub overflow_mul-value_at : goal.overflow_mul-value_at
overflow_mul-value_at c =
    omega (arith, found-inside c.args.table.bytes.now (num c.count_slot-slot.result) (search rules) c.in-Ok.ensures)

pub overflow_add-value_at : goal.overflow_add-value_at
overflow_add-value_at c =
    omega (arith, found-inside c.args.table.bytes.now (num c.count_slot-slot.result) (search rules) c.in-Ok.ensures)

pub word_at-requires : goal.word_at-requires
word_at-requires c =
    omega (arith, found-inside c.args.table.bytes.now (num c.count_slot-slot.result) (search rules) c.in-Ok.ensures)

pub returns-in-Ok : goal.returns-in-Ok
returns-in-Ok c =
    let p = found c.args.table.bytes.now (num c.count_slot-slot.result) (search rules) c.in-Ok.ensures refl in
    counted c.args.table.bytes.now c.count_slot-slot.ensures (search rules) p
    c.word_at.ensures.is c.small-number.ensures

pub returns-in-Err : goal.returns-in-Err
returns-in-Err c =
    counted_none c.args.table.bytes.now c.count_slot-slot.ensures
    (missed c.args.table.bytes.now (num c.count_slot-slot.result) (search rules) c.in-Err.ensures refl)
