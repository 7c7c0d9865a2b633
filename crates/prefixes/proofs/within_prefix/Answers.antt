-- The prefixes first; then the first bits of the two bases, in the prefix of a.
use Rattle.std.proofs.Common.{◌∙◌}
use Rattle.std.proofs.lemmas.Bool.{lt-leb}
use Rattle.prefixes.proofs.PrefixWords.{longer-within, shorter-not-within}
use Rattle.prefixes.proofs.within_prefix.Goals as goal

pub returns-then-a_prefix-b_prefix : goal.returns-then-a_prefix-b_prefix
returns-then-a_prefix-b_prefix c =
    longer-within
    (record { size = c.told-a; values = c.fits-a })
    (record { size = c.told-b; values = c.fits-b })
    c.prefix_of-a_prefix.ensures c.prefix_of-b_prefix.ensures
    c.if-a_prefix-b_prefix.true c.key_part-then-a_prefix-b_prefix.ensures c.key_part.ensures
    c.same_first_bits.ensures

pub returns-else-a_prefix-b_prefix : goal.returns-else-a_prefix-b_prefix
returns-else-a_prefix-b_prefix c =
    lt-leb _ _ c.if-a_prefix-b_prefix.false
    ∙ shorter-not-within
    (record { size = c.told-a; values = c.fits-a })
    (record { size = c.told-b; values = c.fits-b })
    c.prefix_of-a_prefix.ensures c.prefix_of-b_prefix.ensures c.if-a_prefix-b_prefix.false
