-- The value's 32 bytes are the word of their number, which is what the key holds.
use Rattle.std.proofs.Common.{refl, ◌∙◌, arith, rules}
use Rattle.rules.specs.Words.{num}
use Rattle.finding.proofs.Finding.{found, found-inside, missed, look-present, look-absent}
use Rattle.records.proofs.look.Goals as goal

pub overflow_mul-i : goal.overflow_mul-i
overflow_mul-i c = omega (arith, found-inside c.args.table.bytes.now (num c.args.key.now) (search rules) c.in-Ok.ensures)

pub overflow_add-i : goal.overflow_add-i
overflow_add-i c = omega (arith, found-inside c.args.table.bytes.now (num c.args.key.now) (search rules) c.in-Ok.ensures)

pub word_at-requires : goal.word_at-requires
word_at-requires c = omega (arith, found-inside c.args.table.bytes.now (num c.args.key.now) (search rules) c.in-Ok.ensures)

pub returns-in-Ok : goal.returns-in-Ok
returns-in-Ok c =
    c.word_at.ensures.is
    ∙ look-present c.args.table.bytes.now _ _ (search rules) (found c.args.table.bytes.now (num c.args.key.now) (search rules) c.in-Ok.ensures refl)

pub returns-in-Err : goal.returns-in-Err
returns-in-Err c =
    look-absent (missed c.args.table.bytes.now (num c.args.key.now) (search rules) c.in-Err.ensures refl)
