-- The struct is the one of the kernel's reply, and the table is as the kernel leaves it.
use mathlib.Core.List.{[]}
use Rattle.rules.specs.Calls.{turn}
use Rattle.laws.proofs.OwnPayload.{turn-payload}
use Rattle.beaker.proofs.Structs.{exports-none}
use Rattle.beaker.proofs.beaker_turn.Goals as goal

pub returns : goal.returns
returns c =
    exports-none {o = turn c.args.table.now c.args.key.now} c.turn.ensures (turn-payload _ _ []) c.laid_out.ensures
