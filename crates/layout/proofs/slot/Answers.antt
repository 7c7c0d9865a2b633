-- The copies and the store make up the mark, the region, the middle and the end: `key-of-slot` has their number.
use Rattle.layout.proofs.KeyWritten.{key-of-slot}
use Rattle.layout.proofs.slot.Goals as goal

pub returns : goal.returns
returns c =
    rw (c.copy_from_slice.ensures.after, c.copy_from_slice-2.ensures.after, c.copy_from_slice-3.ensures.after)
    (key-of-slot c.args.region c.args.middle.now c.args.first c.args.second c.args.third c.told-middle)
