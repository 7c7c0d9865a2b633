-- The middle is 16 zeros and the 8 bytes of the place, whose number is the place: a `usize` always fits them.
use Rattle.rules.specs.KernelStorage.{place_slot}
use Rattle.slots.proofs.Places.{place-number}
use Rattle.slots.proofs.place_slot.Goals as goal

pub returns : goal.returns
unfolding place_slot
returns c =
    rw (place-number _ _ c.write_number.ensures c.ranges.n.fits) at c.list_slot.ensures
