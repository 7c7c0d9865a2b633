-- Two keys are compared without their ends.
use Rattle.std.proofs.Common.{rules, le-ltb, ◌∙◌}
use Rattle.blocks.proofs.Walking.{none_before, before-if}
use Rattle.blocks.proofs.continues.Goals as goal

pub returns-else-first-i : goal.returns-else-first-i
returns-else-first-i c = le-ltb _ _ (search rules) ∙ none_before c.args.t.now c.args.first c.args.i (search rules)

pub returns-then-first-i : goal.returns-then-first-i
returns-then-first-i c =
    before-if c.args.t.now c.args.first c.args.i (search rules) c.word_at.ensures c.word_at-then-first-i.ensures
    c.same_front.ensures
