-- The reply and its payload give the answer (`message-answered`).
use Rattle.std.proofs.Common.{rules}
use Rattle.answering.proofs.Steps.{payload-short, message-answered}
use Rattle.rules.specs.Program.{program_code}
use Rattle.answering.proofs.answer_message.Goals as goal

pub print-requires : goal.print-requires
print-requires c =
    let short = payload-short _ _ _ c.payload.ensures in
    let pre = c.requires in
    search rules

pub returns : goal.returns
unfolding program_code
returns c = message-answered _ _ (rw c.mask-mask.ensures at c.system_call-reply.ensures) c.payload.ensures c.print.ensures
