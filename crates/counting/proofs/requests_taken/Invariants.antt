-- The loop's invariant is `CountingRequests`: the requests that are left are yet to count.
use Rattle.counting.proofs.Counting.{CountingRequests}
use Rattle.counting.proofs.requests_taken.Given as goal

abbrev pub invariant-loop-request : goal.invariant-loop-request
invariant-loop-request l = CountingRequests l.d l.request-iterator l.total
