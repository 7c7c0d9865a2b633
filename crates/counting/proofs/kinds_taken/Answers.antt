-- The types that are requested are the counts of types that are not zero.
use Rattle.std.proofs.Common.{rules}
use Rattle.rules.specs.Messages.{requests}
use Rattle.counting.proofs.Counting.{counted-kinds}
use Rattle.counting.proofs.kinds_taken.Goals as goal

pub returns : goal.returns
returns c = counted-kinds (requests c.args.d.now) c.requested-counts.ensures c.from.ensures (search rules)
