-- What was looked up are the 32 bytes of what the slot holds.
use Rattle.std.proofs.Common.{refl, rules}
use Rattle.holding.proofs.HeldWords.{looked}
use Rattle.listing.proofs.value_at.Goals as goal

pub returns : goal.returns
returns c =
    looked c.args.table.bytes.now (search rules) (record { size = c.told-slot; number = refl })
    c.look.ensures
