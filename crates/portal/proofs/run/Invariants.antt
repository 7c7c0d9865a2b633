-- What is still to be answered stays within the input; the buffers keep their lengths.
use Rattle.portal.specs.States.{Within}
use Rattle.portal.proofs.run.Given as goal

abbrev pub invariant-loop : goal.invariant-loop
invariant-loop g l = Within l.state l.input
