-- The rest from byte 65 on; a shorter message has an empty payload.
use Rattle.std.proofs.Common.{sym, ◌∙◌}
use Rattle.rules.proofs.Source.{payload-from}
use Rattle.laws.proofs.WordParts.{rest-or-none}
use Rattle.messages.proofs.payload_of.Goals as goal

pub returns : goal.returns
returns c = rest-or-none _ 65 _ _ c.get.ensures.lookup c.unwrap_or_default.ensures ∙ sym (payload-from c.args.m.now)
