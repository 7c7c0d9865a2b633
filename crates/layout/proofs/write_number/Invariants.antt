-- The loop's invariant is `Written`: the digits that are left and the bytes from the index on are the number's.
use Rattle.std.proofs.Common.{length}
use Rattle.layout.proofs.Digits.{Written}
use Rattle.layout.proofs.write_number.Given as goal

abbrev pub invariant-loop-i : goal.invariant-loop-i
invariant-loop-i l = Written l.n (length l.initial.to) l.to l.left l.i
