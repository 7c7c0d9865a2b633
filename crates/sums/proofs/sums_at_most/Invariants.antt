-- The invariant is `Sums`: what is left to compare are the limbs before this one, with the carry of this one and those after it.
use Rattle.std.proofs.Common.{◌*◌}
use Rattle.sums.proofs.Sums.{Sums}
use Rattle.sums.proofs.sums_at_most.Given as goal

abbrev pub invariant-loop-i : goal.invariant-loop-i
invariant-loop-i l = Sums l.p l.q l.a l.n (4 * l.i) l.carry
