-- A number that names no type is refused; for any other the type is judged.
use Rattle.std.proofs.Common.{sym, ◌∙◌}
use Rattle.rows.proofs.Rows.{known-if, unknown-not}
use Rattle.rows.proofs.later_row.Goals as goal

pub returns-in_default : goal.returns-in_default
returns-in_default c = unknown-not _ _ _ _ c.end_first.ensures c.in_default.ensures.1

pub returns : goal.returns
returns c =
    let named = c.in-Ok.ensures in
    known-if _ _ _ _ c.end_first.ensures named.1 (λ kind q. c.kind_row.ensures kind (q ∙ sym named.0))
