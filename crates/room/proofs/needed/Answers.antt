-- Each of the four ways of `put` says how many records it makes.
use Rattle.std.proofs.Common.{arith, refl, sym, rules}
use Rattle.rules.specs.Words.{num}
use Rattle.laws.proofs.TableRecords.{formed-within}
use Rattle.finding.proofs.Finding.{found, missed}
use Rattle.room.proofs.Ways.{one_fewer, as_many, the_same, one_more}
use Rattle.room.proofs.needed.Goals as goal

pub overflow_sub-result : goal.overflow_sub-result
overflow_sub-result c =
    let p = found c.args.table.bytes.now (num c.args.key.now) (search rules) c.in-Ok-true.ensures refl in
    omega (arith, p.inside)

pub overflow_add-result : goal.overflow_add-result
overflow_add-result c = omega (arith, formed-within c.args.table.bytes.now (search rules))

pub returns-in-Ok-true : goal.returns-in-Ok-true
returns-in-Ok-true c =
    let p = found c.args.table.bytes.now (num c.args.key.now) (search rules) c.in-Ok-true.ensures refl in
    omega (arith, one_fewer (num c.args.value.now) p (sym c.in-Ok-true.ensures'))

pub returns-in-Err-false : goal.returns-in-Err-false
returns-in-Err-false c =
    let p = missed c.args.table.bytes.now (num c.args.key.now) (search rules) c.in-Err-false.ensures refl in
    omega (arith, one_more (num c.args.value.now) p (sym c.in-Err-false.ensures'))

pub returns-in_default : goal.returns-in_default
returns-in_default c =
    let p = found c.args.table.bytes.now (num c.args.key.now) (search rules) c.find.ensures c.in_default.is-0 in
    omega (arith, as_many (num c.args.value.now) p (sym c.in_default.ensures'))

pub returns-in_default-2 : goal.returns-in_default-2
returns-in_default-2 c =
    let p = missed c.args.table.bytes.now (num c.args.key.now) (search rules) c.find.ensures c.in_default.is-0 in
    omega (arith, the_same (num c.args.value.now) p (sym c.in_default.ensures'))
