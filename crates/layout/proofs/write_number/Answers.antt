-- The loop's invariant is `Written`: the digits that are left and the bytes from the index on are the number's.
use Rattle.std.proofs.Common.{arith}
use Rattle.layout.proofs.Digits.{written_none, written-more, written_all}
use Rattle.layout.proofs.write_number.Goals as goal

pub loop-i-init : goal.loop-i-init
loop-i-init c = written_none _ _

pub loop-i-preserved : goal.loop-i-preserved
loop-i-preserved c = written-more c.loop-i.invariant (omega arith)

pub returns : goal.returns
returns c = written_all c.loop-i.invariant (omega arith)
