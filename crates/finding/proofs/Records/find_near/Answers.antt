-- A guess whose record has the key, or that is the place of a key with no record, is answered at once; any other is left to `find`.
use Rattle.std.proofs.Common.{sym, ◌∙◌, rules}
use Rattle.finding.proofs.Near.{near-has, near-gap}
use Rattle.finding.proofs.Records.find_near.Goals as goal

pub returns-then-has_key : goal.returns-then-has_key
returns-then-has_key c =
    near-has c.args.self.bytes.now _ c.args.guess (search rules) (sym c.has_key.ensures ∙ c.if-has_key.true)

pub returns-then-is_place : goal.returns-then-is_place
returns-then-is_place c =
    near-gap c.args.self.bytes.now _ c.args.guess (search rules) (sym c.has_key.ensures ∙ c.if-has_key.false)
    (sym c.is_place.ensures ∙ c.if-is_place.true)
