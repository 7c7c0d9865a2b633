-- The list of a sound table is as long as its store at most, so `small` gives its whole length.
use Rattle.rules.specs.Table.{store}
use Rattle.listing.proofs.Lookups.{small_at}
use Rattle.soundness.proofs.Whole.{sound-listing}
use Rattle.soundness.proofs.list_length.Goals as goal

pub returns : goal.returns
returns c =
    sound-listing c.args.table c.requires
    (small_at (store c.args.table.bytes.now) c.length_slot.ensures c.value_at.ensures c.small.ensures)
