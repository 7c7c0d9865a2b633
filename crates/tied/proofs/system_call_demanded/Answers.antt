-- The export keeps its promise of the call, and what is exported keeps the contract.
use Rattle.demands.specs.Kernels.{calling, defined_on}
use Rattle.tied.proofs.Tied.{demanded}
use Rattle.tied.proofs.system_call_demanded.Goals as goal

pub returns : goal.returns
unfolding defined_on
returns c = demanded _ (calling _ _ _) c.beaker_system_call.ensures
