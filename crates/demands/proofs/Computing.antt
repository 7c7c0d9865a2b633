-- Opens every definition of the rules and of the demands: a statement about one sequence of calls says `unfolding computing`, and
-- `refl` then computes it.
use Rattle.rules.proofs.Computing.{computing as computing-rules}
use Rattle.demands.specs.Kernels.{starts, asks_to_register, defined_on, started_anew, registers, state_now, last_registration, history}

unfoldable pub computing : Unit {0}
unfolding computing-rules starts asks_to_register defined_on started_anew registers state_now last_registration history
computing = tt
