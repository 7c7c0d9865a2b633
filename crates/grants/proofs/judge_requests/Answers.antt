-- The loop keeps `Going`: the requests before are contained, and their tests are counted. What was read for them is kept
-- for the next search. Whether a request is contained is sought in the condition, whatever its form.
use Rattle.std.proofs.Common.{rules}
use Rattle.grants.proofs.Going.{going-starts, search-needs, going_on, not-granted, all-granted}
use Rattle.grants.proofs.judge_requests.Goals as goal

pub loop-request-init : goal.loop-request-init
loop-request-init c =
    rw c.into_iter-request-iterator.ensures.into_iter_gives
    (going-starts c.args.table.bytes.now c.requires.sound_table c.current-holder.ensures c.key_part-registrar.ensures
    c.unread-held.ensures c.requests-request-items.ensures)

pub search-found-requires-clause-search_needs : goal.search-found-requires-clause-search_needs
search-found-requires-clause-search_needs c =
    search-needs c.args.table.bytes.now c.requires.sound_table c.loop-request.invariant c.in-Some.ensures.steps

pub loop-request-preserved : goal.loop-request-preserved
loop-request-preserved c =
    going_on c.args.table.bytes.now c.requires.sound_table c.loop-request.invariant c.in-Some.ensures.steps
    c.search-found.ensures (search rules)

pub returns-then-not-found : goal.returns-then-not-found
returns-then-not-found c =
    not-granted c.args.table.bytes.now c.requires.sound_table c.loop-request.invariant c.in-Some.ensures.steps
    c.search-found.ensures (search rules)

pub returns : goal.returns
returns c = all-granted c.loop-request.invariant c.in-None.ensures.steps.0
