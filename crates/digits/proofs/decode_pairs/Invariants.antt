-- The invariant is `Decoded`: the first i pairs are in their place, and the test is whether their characters are all digits.
use Rattle.digits.proofs.Turns.{Decoded}
use Rattle.digits.proofs.decode_pairs.Given as goal

abbrev pub invariant-loop-i : goal.invariant-loop-i
invariant-loop-i l = Decoded l.line l.to l.right l.i
