-- The last line is empty, or is answered as every other.
use Rattle.std.proofs.Common.{◌≡◌, false, length, refl, arith}
use Rattle.writing.proofs.Texts.{wrote_none}
use Rattle.feeding.proofs.Prints.{finished-empty, finished-left}
use Rattle.feeding.proofs.finish.Goals as goal
use Rattle.feeding.proofs.finish.Goals.{else-not-long-via-then-not-long+else-is_empty as not_empty, else-not-long-via-else-not-long as is_long}

pub returns-then-is_empty : goal.returns-then-is_empty
returns-then-is_empty c =
    let whole : c.args.long ≡ false = grind arith in
    let empty : length c.args.line.now ≡ 0 = grind arith in
    rw (whole, finished-empty c.args.t.now c.args.line.now empty) (record { wrote = wrote_none _; changed = refl })

pub returns : goal.returns
returns c =
    let more : c.args.long ≡ false → length c.args.line.now ≡ 0 → ⊥ =
    λ e f. elim c.else-not-long.branch [ not_empty w ↦ grind arith | is_long w ↦ grind arith ] in
    rw (finished-left c.args.t.now c.args.line.now c.args.long more) c.answer_rest.ensures
