-- The word that the current slot holds.
use Rattle.rules.specs.Procedures.{current}
use Rattle.rules.specs.Table.{store}
use Rattle.listing.proofs.Lookups.{at_slot}
use Rattle.acting.proofs.current.Goals as goal

pub returns : goal.returns
returns c =
    unfold current in
    record {
      size = c.value_at.ensures.size;
      number = at_slot (store c.args.table.bytes.now) c.current_slot-slot.ensures c.value_at.ensures;
    }
