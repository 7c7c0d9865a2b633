-- The last 24 bytes have the remainder by 256^24.
use Rattle.std.proofs.Common.{◌≡◌, ◌-◌, length, take, drop, rules}
use Rattle.limbs.proofs.Limbs.{a_word}
use Rattle.key_words.proofs.KeyWords.{last-key}
use Rattle.key_words.proofs.key_part.Goals as goal

pub returns : goal.returns
returns c =
    let part : c.unwrap.result.now ≡ take (length c.args.word.now - 8) (drop 8 c.args.word.now) = search rules in
    rw part (last-key (a_word c.told-word c.fits-word))
