-- Two words are the same where their numbers are.
use Rattle.std.proofs.Common.{◌∙◌}
use Rattle.rules.specs.Procedures.{entry_key}
use Rattle.rules.specs.Table.{store}
use Rattle.listing.proofs.Lookups.{at_slot}
use Rattle.deleting.proofs.names_entry.Goals as goal

pub returns : goal.returns
unfolding entry_key
returns c =
    let entry = at_slot (store c.args.table.bytes.now) c.entry_slot.ensures c.value_at.ensures in
    c.same_word.ensures ∙ rw (c.key_word.ensures.number, entry)
