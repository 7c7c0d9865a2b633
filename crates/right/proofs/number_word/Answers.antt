-- The 32 bytes of a `usize` stand for it: it always fits them.
use Rattle.right.proofs.Right.{number-held}
use Rattle.right.proofs.number_word.Goals as goal

pub returns : goal.returns
returns c = number-held _ _ c.write_number.ensures c.ranges.n.fits
