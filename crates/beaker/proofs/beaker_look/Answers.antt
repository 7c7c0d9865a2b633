-- The struct is the one of the kernel's reply, and the table is as the kernel leaves it.
use mathlib.Core.List.{[]}
use Rattle.rules.specs.Calls.{look}
use Rattle.laws.proofs.OwnPayload.{look_payload}
use Rattle.beaker.proofs.Structs.{exports-none}
use Rattle.beaker.proofs.beaker_look.Goals as goal

pub returns : goal.returns
returns c =
    exports-none {o = look c.args.table.now c.args.slot.now} c.look.ensures (look_payload _ _ []) c.laid_out.ensures
