-- What is left of the code decides; each step drops at least an opcode.
use Rattle.std.proofs.Common.{length, ◌≡◌}
use Rattle.rules.specs.Validation.{walk}
use Rattle.opcodes.proofs.walk.Given as goal

abbrev pub invariant-loop-at : goal.invariant-loop-at
invariant-loop-at l = walk l.mask 0 l.code ≡ walk l.mask 0 l.rest

abbrev pub decreases-loop-at : goal.decreases-loop-at
decreases-loop-at l = length l.rest
