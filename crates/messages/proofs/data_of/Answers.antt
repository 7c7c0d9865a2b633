-- The rest from byte 1 on; an empty message has no data.
use Rattle.rules.specs.Messages.{data_of}
use Rattle.laws.proofs.WordParts.{rest-or-none}
use Rattle.messages.proofs.data_of.Goals as goal

pub returns : goal.returns
unfolding data_of
returns c = rest-or-none _ 1 _ _ c.get.ensures.lookup c.unwrap_or_default.ensures
