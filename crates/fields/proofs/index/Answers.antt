-- The word at its offset is the field.
use Rattle.rules.specs.Messages.{index_word}
use Rattle.fields.proofs.index.Goals as goal

pub returns : goal.returns
unfolding index_word
returns c = record { size = c.word_at.ensures.size; number = c.word_at.ensures.number }
