-- The loop's invariant is `Walked`: the requests passed are good. With one that is malformed, so is the series.
use Rattle.std.proofs.Common.{length}
use Rattle.requests.proofs.Walked.{Walked}
use Rattle.requests.proofs.well_formed.Given as goal

abbrev pub invariant-loop-rest : goal.invariant-loop-rest
invariant-loop-rest l = Walked l.d l.rest

abbrev pub decreases-loop-rest : goal.decreases-loop-rest
decreases-loop-rest l = length l.rest
