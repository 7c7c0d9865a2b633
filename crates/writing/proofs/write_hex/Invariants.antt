-- The invariant is `Hexed`: the digits of the first i bytes are in their place.
use Rattle.writing.proofs.Texts.{Hexed}
use Rattle.writing.proofs.write_hex.Given as goal

abbrev pub invariant-loop-i : goal.invariant-loop-i
invariant-loop-i l = Hexed l.bytes l.out l.i
