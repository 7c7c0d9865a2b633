-- The word at its offset is the field.
use Rattle.rules.specs.Messages.{address_word}
use Rattle.fields.proofs.address_word.Goals as goal

pub returns : goal.returns
unfolding address_word
returns c = record { size = c.word_at.ensures.size; number = c.word_at.ensures.number }
