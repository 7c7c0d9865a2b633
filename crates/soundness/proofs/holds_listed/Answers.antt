-- Where the places are sound only a key is listed.
use Rattle.rules.specs.Table.{store}
use Rattle.soundness.proofs.Whole.{key-listed}
use Rattle.soundness.proofs.holds_listed.Goals as goal

pub returns-then-is_key : goal.returns-then-is_key
returns-then-is_key c =
    key-listed c.value_at-key.ensures c.is_key.ensures (store c.args.table.bytes.now) c.if-is_key.true
    c.key_part.ensures c.listed.ensures
