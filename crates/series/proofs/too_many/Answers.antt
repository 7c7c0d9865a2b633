-- The search over the counts of the types finds one that is too large, or none is.
use Rattle.std.proofs.Common.{rules, ◌<◌, ◌≤◌, tests}
use Rattle.std.proofs.lemmas.Iterator.{YieldsList-from_slice, cases_from_any}
use Rattle.rules.specs.Messages.{requests}
use Rattle.rules.specs.Sound.{greatest_count}
use Rattle.series.proofs.Counted.{counts-decide}
use Rattle.series.proofs.too_many.Goals as goal

pub returns : goal.returns
returns c =
    counts-decide (requests c.args.d.now) c.requested-counts.ensures c.from.ensures c.any.result
    (cases_from_any _ _ _ (λ x. greatest_count < x) (λ x. x ≤ greatest_count) c.any.ensures.ran (YieldsList-from_slice _ cc)
    (λ x q k. search (rules, tests)) (λ x q k. search (rules, tests)))
