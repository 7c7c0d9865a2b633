-- The loop's invariant is `Written`: what is written for the types before the index.
use Rattle.founding.proofs.FirstSeries.{Written}
use Rattle.founding.proofs.first_series.Given as goal

abbrev pub invariant-loop-kind : goal.invariant-loop-kind
invariant-loop-kind l = Written l.d l.at l.kind-index
