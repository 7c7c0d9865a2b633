-- The 12 bytes before an address are zero where the number is below 256^20.
use Rattle.rules.specs.Sound.{is_address}
use Rattle.key_words.proofs.is_address.Goals as goal

pub returns : goal.returns
unfolding is_address
returns c = c.stands_right.ensures
