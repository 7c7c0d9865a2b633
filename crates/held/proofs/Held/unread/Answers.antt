-- The number is the one that was read, and the copies are zeros.
use Rattle.std.proofs.Common.{refl}
use Rattle.held.proofs.Held.unread.Goals as goal

pub returns : goal.returns
returns c = record { type = refl; number = c.count_and_next-number.ensures; none = refl; copies = refl }
