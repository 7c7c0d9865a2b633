-- The export keeps its promise of the call, and what is exported keeps the contract.
use Rattle.demands.specs.Kernels.{looking, defined_on}
use Rattle.tied.proofs.Tied.{demanded}
use Rattle.tied.proofs.look_demanded.Goals as goal

pub returns : goal.returns
unfolding defined_on
returns c = demanded _ (looking _) c.beaker_look.ensures
