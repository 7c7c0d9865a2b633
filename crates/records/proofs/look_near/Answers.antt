-- As in `look` the value is what the key holds, and as in `keys_through` a key that is there is one more than those below it.
use Rattle.std.proofs.Common.{ℕ, arith, refl, ◌≡◌, ap, ◌∙◌, length, replicate, rules}
use Rattle.rules.specs.Words.{num}
use Rattle.laws.proofs.TableRecords.{formed}
use Rattle.finding.proofs.Places.{through-present, through-absent}
use Rattle.finding.proofs.Finding.{found, found-inside, missed, look-present, look-absent}
use Rattle.records.proofs.look_near.Goals as goal

pub overflow_mul-value_at : goal.overflow_mul-value_at
overflow_mul-value_at c =
    omega (arith, found-inside c.args.table.bytes.now (num c.args.key.now) (search rules) c.in-Ok.ensures)

pub overflow_add-value_at : goal.overflow_add-value_at
overflow_add-value_at c =
    omega (arith, found-inside c.args.table.bytes.now (num c.args.key.now) (search rules) c.in-Ok.ensures)

pub word_at-requires : goal.word_at-requires
word_at-requires c =
    omega (arith, found-inside c.args.table.bytes.now (num c.args.key.now) (search rules) c.in-Ok.ensures)

pub returns-in-Ok : goal.returns-in-Ok
returns-in-Ok c = (
  c.copy_from_slice.ensures.after ∙ c.word_at.ensures.is ∙ look-present c.args.table.bytes.now _ _ (search rules) (found c.args.table.bytes.now (num c.args.key.now) (search rules) c.in-Ok.ensures refl),
  through-present (formed c.args.table.bytes.now (search rules)).ascends (found c.args.table.bytes.now (num c.args.key.now) (search rules) c.in-Ok.ensures refl),
)

pub returns-in-Err : goal.returns-in-Err
returns-in-Err c =
    let size : length c.args.to.now ≡ 32 = search rules in (
      (c.fill.ensures.after (λ y e. e)) ∙ ap (λ (n : ℕ). replicate {A = ℕ} n 0) size ∙ look-absent (missed c.args.table.bytes.now (num c.args.key.now) (search rules) c.in-Err.ensures refl),
      through-absent (missed c.args.table.bytes.now (num c.args.key.now) (search rules) c.in-Err.ensures refl),
    )
