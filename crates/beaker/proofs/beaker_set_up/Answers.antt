-- The struct is the one of the kernel's reply, and the table is as the kernel leaves it.
use mathlib.Core.List.{[]}
use Rattle.rules.specs.Calls.{set_up}
use Rattle.laws.proofs.OwnPayload.{set-up-payload}
use Rattle.beaker.proofs.Structs.{exports-none}
use Rattle.beaker.proofs.beaker_set_up.Goals as goal

pub returns : goal.returns
returns c =
    exports-none
    {o = set_up c.args.table.now c.args.key.now c.args.address.now c.args.kernel_address.now}
    c.set_up.ensures (set-up-payload _ _ _ _ []) c.laid_out.ensures
