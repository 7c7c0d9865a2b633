-- The invariant is `Zeros`: the limbs before this one are zero.
use Rattle.std.proofs.Common.{◌*◌}
use Rattle.equality.proofs.ByLimbs.{Zeros}
use Rattle.equality.proofs.is_zero.Given as goal

abbrev pub invariant-loop-i : goal.invariant-loop-i
invariant-loop-i l = Zeros l.bytes (8 * l.i)
