-- The worked sequence, computed.
use mathlib.Core.Path.{refl}
use Rattle.demands.specs.Worked.{WorkedSequence}
use Rattle.demands.proofs.Computing.{computing}

pub worked-sequence : WorkedSequence
unfolding computing
worked-sequence = (refl, refl, refl, refl, refl, refl, refl, refl, refl)
