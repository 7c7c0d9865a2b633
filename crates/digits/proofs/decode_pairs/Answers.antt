-- A pair more, and the end.
use Rattle.std.proofs.Common.{rules}
use Rattle.digits.proofs.Turns.{decoded-more, decoded-all}
use Rattle.digits.proofs.decode_pairs.Goals as goal

pub loop-i-preserved : goal.loop-i-preserved
loop-i-preserved c =
    decoded-more c.loop-i.invariant (search rules) c.value-high.ensures.value c.value-low.ensures.value (search rules) (search rules)

pub returns : goal.returns
returns c = let d = decoded-all c.loop-i.invariant (search rules) in record { value = d.0; to_after = d.1 }
