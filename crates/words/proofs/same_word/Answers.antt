-- Two words are the same where they are as byte strings.
use Rattle.words.proofs.same_word.Goals as goal

pub returns : goal.returns
returns c = c.same.ensures
