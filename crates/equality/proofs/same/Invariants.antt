-- The invariant is `Agree`: the limbs before this one are the same.
use Rattle.std.proofs.Common.{◌*◌}
use Rattle.equality.proofs.ByLimbs.{Agree}
use Rattle.equality.proofs.same.Given as goal

abbrev pub invariant-loop-i : goal.invariant-loop-i
invariant-loop-i l = Agree l.a l.b l.last (8 * l.i)
