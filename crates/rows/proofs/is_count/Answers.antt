-- The last two bytes are the last two digits of the key's number.
use Rattle.std.proofs.Common.{◌∙◌}
use borrow.Author.Tests.{ne_eqb}
use Rattle.rows.proofs.Rows.{third-decides, second-decides}
use Rattle.rows.proofs.is_count.Goals as goal

pub returns-then-end_second-eq0 : goal.returns-then-end_second-eq0
returns-then-end_second-eq0 c = third-decides _ c.end_second.ensures c.if-end_second-eq0.true c.end_third.ensures

pub returns-else-end_second-eq0 : goal.returns-else-end_second-eq0
returns-else-end_second-eq0 c = ne_eqb _ _ c.if-end_second-eq0.false ∙ second-decides _ c.end_second.ensures c.if-end_second-eq0.false
