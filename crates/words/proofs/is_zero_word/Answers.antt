-- A word is zero where it is as a byte string.
use Rattle.words.proofs.is_zero_word.Goals as goal

pub returns : goal.returns
returns c = c.is_zero.ensures
