-- The 8 bytes before a key are zero where the number is below 256^24.
use Rattle.rules.specs.Sound.{is_key}
use Rattle.key_words.proofs.is_key.Goals as goal

pub returns : goal.returns
unfolding is_key
returns c = c.stands_right.ensures
