-- The export keeps its promise of the call, and what is exported keeps the contract.
use Rattle.demands.specs.Kernels.{setting_up, defined_on}
use Rattle.tied.proofs.Tied.{demanded}
use Rattle.tied.proofs.set_up_demanded.Goals as goal

pub returns : goal.returns
unfolding defined_on
returns c = demanded _ (setting_up _ _ _) c.beaker_set_up.ensures
