-- The invariant is `Hexed`: the digits of the first i bytes are in their place.
use Rattle.std.proofs.Common.{rules}
use Rattle.writing.proofs.Texts.{hexed-more, hexed-all}
use Rattle.writing.proofs.write_hex.Goals as goal

pub loop-i-preserved : goal.loop-i-preserved
loop-i-preserved c = hexed-more c.loop-i.invariant (search rules) c.digit.ensures c.digit-in-loop-i.ensures

pub returns : goal.returns
returns c = hexed-all c.loop-i.invariant (search rules)
