-- At the place that `keys_below` found, the record has the key or the key is absent.
use Rattle.std.proofs.Common.{sym, ◌∙◌, rules}
use Rattle.finding.proofs.Finding.{find-has, find-gap}
use Rattle.finding.proofs.Records.find.Goals as goal

pub returns-then-has_key : goal.returns-then-has_key
returns-then-has_key c =
    find-has c.args.self.bytes.now _ _ (search rules) c.keys_below-i.ensures (sym c.has_key.ensures ∙ c.if-has_key.true)

pub returns-else-has_key : goal.returns-else-has_key
returns-else-has_key c =
    find-gap c.args.self.bytes.now _ _ (search rules) c.keys_below-i.ensures (sym c.has_key.ensures ∙ c.if-has_key.false)
