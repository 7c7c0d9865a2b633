-- A line that is no message is too long or odd.
use Rattle.std.proofs.Common.{rules}
use Rattle.digits.proofs.Messages.{too_long, odd}
use Rattle.digits.proofs.decode.Goals as goal
use Rattle.digits.proofs.decode.Goals.{then-line-gt-GREATEST_LINE-via-then-line-gt-GREATEST_LINE as is_long, then-line-gt-GREATEST_LINE-via-else-line-gt-GREATEST_LINE+then-line-ne0 as is_odd}

pub returns-then-line-gt-GREATEST_LINE : goal.returns-then-line-gt-GREATEST_LINE
returns-then-line-gt-GREATEST_LINE c =
    elim c.then-line-gt-GREATEST_LINE.branch [
      | is_long w ↦ too_long _ _ (search rules)
      | is_odd w ↦ odd _ _ (search rules) w.if-line-ne0.true
    ]
