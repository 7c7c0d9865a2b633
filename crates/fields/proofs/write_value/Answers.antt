-- The word at its offset is the field.
use Rattle.rules.specs.Messages.{write_value}
use Rattle.fields.proofs.write_value.Goals as goal

pub returns : goal.returns
unfolding write_value
returns c = record { size = c.word_at.ensures.size; number = c.word_at.ensures.number }
