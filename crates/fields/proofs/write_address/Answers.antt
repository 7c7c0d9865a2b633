-- The word at its offset is the field.
use Rattle.rules.specs.Messages.{write_address}
use Rattle.fields.proofs.write_address.Goals as goal

pub returns : goal.returns
unfolding write_address
returns c = record { size = c.word_at.ensures.size; number = c.word_at.ensures.number }
