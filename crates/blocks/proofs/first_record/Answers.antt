-- The first slot is that of the key zero.
use Rattle.std.proofs.Common.{ap, ◌∙◌}
use Rattle.rules.specs.Table.{store}
use Rattle.finding.specs.Finding.{keys_below}
use Rattle.blocks.proofs.Walking.{first_key}
use Rattle.blocks.proofs.first_record.Goals as goal

pub returns : goal.returns
returns c =
    c.keys_below.ensures ∙ ap (keys_below (store c.args.table.bytes.now)) (c.address_slot.ensures.number ∙ first_key)
