-- What the mask leaves of a byte are its first bits.
use Rattle.prefixes.proofs.FirstBits.{masked}
use borrow.Author.Rules.{rules}
use Rattle.prefixes.proofs.same_part.Goals as goal

pub returns : goal.returns
returns c = masked c.args.part c.args.x c.args.y (search rules) (search rules) c.ranges.x.fits c.ranges.y.fits
