-- The loop keeps `Walking`: what is left of the walk is its answer.
use Rattle.std.proofs.Common.{◌+◌, ◌-◌}
use Rattle.blocks.proofs.Walking.{Walking}
use Rattle.blocks.proofs.blocks_form.Given as goal

abbrev pub invariant-loop-i : goal.invariant-loop-i
invariant-loop-i l = Walking l.table l.list l.places l.first l.i l.blocks l.count

abbrev pub decreases-loop-i : goal.decreases-loop-i
decreases-loop-i l = l.list + 1 - l.i
