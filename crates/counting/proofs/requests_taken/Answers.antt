-- The loop's invariant is `CountingRequests`: the requests that are left are yet to count.
use Rattle.counting.proofs.Counting.{counted-request, counted-requests}
use Rattle.counting.proofs.requests_taken.Goals as goal

pub loop-request-preserved : goal.loop-request-preserved
loop-request-preserved c = counted-request c.loop-request.invariant c.in-Some.ensures.steps c.words_taken-total.ensures

pub returns : goal.returns
returns c = counted-requests c.loop-request.invariant c.in-None.ensures.steps.0
