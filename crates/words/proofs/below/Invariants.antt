-- The invariant is `Agree`: the words agree before this limb. The first limbs that differ decide, and at the end the words are equal.
use Rattle.std.proofs.Common.{◌*◌}
use Rattle.words.proofs.Compares.{Agree}
use Rattle.words.proofs.below.Given as goal

abbrev pub invariant-loop-i : goal.invariant-loop-i
invariant-loop-i l = Agree l.a l.b (8 * l.i)
