-- The types up to Delete have their prefix in the first word; the others have none.
use Rattle.std.proofs.Common.{rules, arith, ap, ◌≤◌}
use lib.Dec.{leb}
use Rattle.rules.specs.Capabilities.{number, greatest_prefix}
use Rattle.rights.proofs.ByKind.{no-prefix, first-prefix}
use Rattle.rights.proofs.prefix_in_range.Goals as goal

pub word_at-requires : goal.word_at-requires
unfolding number
word_at-requires c = let low : c.args.kind.0 ≤ 5 = grind arith in c.requires low

pub returns-in_default : goal.returns-in_default
returns-in_default c = λ k p. no-prefix k p (search rules) (search rules) (search rules) _

pub returns-in-CALL : goal.returns-in-CALL
unfolding greatest_prefix
returns-in-CALL c =
    let low : c.args.kind.0 ≤ 5 = grind arith in
    first-prefix low c.word_at.ensures (ap (λ x. leb x greatest_prefix) c.prefix_of.ensures)
