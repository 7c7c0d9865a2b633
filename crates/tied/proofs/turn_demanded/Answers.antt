-- The export keeps its promise of the call, and what is exported keeps the contract.
use Rattle.demands.specs.Kernels.{turning, defined_on}
use Rattle.tied.proofs.Tied.{demanded}
use Rattle.tied.proofs.turn_demanded.Goals as goal

pub returns : goal.returns
unfolding defined_on
returns c = demanded _ (turning _) c.beaker_turn.ensures
