-- The struct is the one of the kernel's reply and of the payload's length, and the table is as the kernel leaves it.
use Rattle.rules.specs.Calls.{system_call}
use Rattle.laws.proofs.OwnPayload.{own-payload}
use Rattle.beaker.proofs.Structs.{exports-part}
use Rattle.beaker.proofs.beaker_system_call.Goals as goal

pub returns : goal.returns
returns c =
    exports-part
    {o = system_call c.args.table.now c.args.message.now c.args.code.now c.args.mask.now}
    c.system_call-reply.ensures c.args.message.now (own-payload _ _ _ _) _ c.payload.ensures c.laid_out.ensures
