-- A key that is there is one more than those below it; one that is not adds none.
use Rattle.std.proofs.Common.{refl, arith, rules}
use Rattle.rules.specs.Words.{num}
use Rattle.laws.proofs.TableRecords.{formed}
use Rattle.finding.proofs.Places.{through-present, through-absent}
use Rattle.finding.proofs.Finding.{found, found-inside, missed}
use Rattle.records.proofs.keys_through.Goals as goal

pub overflow_add-result : goal.overflow_add-result
overflow_add-result c =
    omega (arith, found-inside c.args.table.bytes.now (num c.args.key.now) (search rules) c.in-Ok.ensures)

pub returns-in-Ok : goal.returns-in-Ok
returns-in-Ok c =
    through-present (formed c.args.table.bytes.now (search rules)).ascends (found c.args.table.bytes.now (num c.args.key.now) (search rules) c.in-Ok.ensures refl)

pub returns-in-Err : goal.returns-in-Err
returns-in-Err c =
    through-absent (missed c.args.table.bytes.now (num c.args.key.now) (search rules) c.in-Err.ensures refl)
