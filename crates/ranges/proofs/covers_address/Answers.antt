-- An address is the range that begins and ends there.
use Rattle.std.proofs.Common.{◌∙◌}
use Rattle.ranges.proofs.Ranges.{address-range}
use Rattle.ranges.proofs.covers_address.Goals as goal

pub returns : goal.returns
returns c = c.within_range.ensures ∙ address-range _ _ _
