-- The word at its offset is the field.
use Rattle.rules.specs.Messages.{key_word}
use Rattle.fields.proofs.key_word.Goals as goal

pub returns : goal.returns
unfolding key_word
returns c = record { size = c.word_at.ensures.size; number = c.word_at.ensures.number }
