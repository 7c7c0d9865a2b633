-- The loop's invariant is `Walked`: the requests passed are good. With one that is malformed, so is the series.
use Rattle.std.proofs.Common.{rules, length, ◌≤◌}
use Rattle.laws.proofs.WordParts.{rest_part, rest-or-none}
use Rattle.requests.proofs.Walked.{walked_none, walked_more, walked_stop, walked_all, stray-end}
use Rattle.requests.proofs.well_formed.Goals as goal

pub returns-then-rest-ne0 : goal.returns-then-rest-ne0
returns-then-rest-ne0 c =
    stray-end c.args.d.now _ (rest-or-none _ _ _ _ c.get.ensures.lookup c.unwrap_or_default-rest.ensures) c.if-rest-ne0.true

pub loop-rest-init : goal.loop-rest-init
loop-rest-init c =
    walked_none c.args.d.now _ (rest-or-none _ _ _ _ c.get.ensures.lookup c.unwrap_or_default-rest.ensures) c.if-rest-ne0.false

pub returns-in_default : goal.returns-in_default
returns-in_default c = walked_stop c.loop-rest.invariant (search rules) c.in_default.ensures

pub slice_bounds-rest-count : goal.slice_bounds-rest-count
slice_bounds-rest-count c = (walked_more c.loop-rest.invariant c.in-Some.ensures).within

pub slice_bounds-rest-start : goal.slice_bounds-rest-start
slice_bounds-rest-start c =
    let passed = walked_more c.loop-rest.invariant c.in-Some.ensures in
    let within : c.in-Some.bytes ≤ length c.loop-rest.rest.now = passed.within in
    search rules

pub loop-rest-smaller : goal.loop-rest-smaller
loop-rest-smaller c = rw rest_part (walked_more c.loop-rest.invariant c.in-Some.ensures).shorter

pub loop-rest-preserved : goal.loop-rest-preserved
loop-rest-preserved c = rw rest_part (walked_more c.loop-rest.invariant c.in-Some.ensures).more

pub returns : goal.returns
returns c = walked_all c.loop-rest.invariant (search rules)
