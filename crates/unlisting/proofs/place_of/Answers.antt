-- A sound table's list is short, so `small` gives the whole index.
use Rattle.rules.specs.Table.{store}
use Rattle.listing.proofs.Lookups.{small_at}
use Rattle.unlisting.proofs.Unlisting.{whole-place}
use Rattle.unlisting.proofs.place_of.Goals as goal

pub returns : goal.returns
returns c =
    whole-place c.args.table.bytes.now c.requires
    (small_at (store c.args.table.bytes.now) c.index_slot.ensures c.value_at.ensures c.small.ensures)
