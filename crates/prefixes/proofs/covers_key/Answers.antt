-- The key's first bits against those of the base, in the word's own prefix.
use Rattle.prefixes.proofs.PrefixWords.{key-covered}
use borrow.Author.Rules.{rules}
use Rattle.prefixes.proofs.covers_key.Goals as goal

pub returns : goal.returns
returns c =
    key-covered (record { size = search rules; values = c.fits-capability }) _
    c.prefix_of.ensures c.key_part.ensures c.same_first_bits.ensures
