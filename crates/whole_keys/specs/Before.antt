-- Document 02, No. 2: "A table sound before is sound after." Before, prefixes ran from 0 to 24, and all else of soundness was as it is.
use Rattle.std.specs.Prelude.{ℕ}
use Rattle.rules.specs.Words.{Bytes}
use Rattle.rules.specs.Sound.{SoundTableUpTo, SoundTable}
use Rattle.rules.specs.Examples.{EachPrefixKind, table_with_prefix}

-- "prefix s, 0 to 24 (bits)"
abbrev pub greatest_prefix_before : ℕ
greatest_prefix_before = 24

abbrev pub SoundTableBefore : Bytes → Type 0
SoundTableBefore = SoundTableUpTo greatest_prefix_before

abbrev pub SoundBeforeIsSoundAfter : Type 0
SoundBeforeIsSoundAfter = (t : Bytes) → SoundTableBefore t → SoundTable t

-- On both sides of the old limit: a table with a prefix of 24 bits was sound, with 25 it was not, and is sound now.
abbrev pub PrefixesEndedAt24 : Type 0
PrefixesEndedAt24 =
    EachPrefixKind (λ kind. SoundTableBefore (table_with_prefix kind 24))
    × EachPrefixKind (λ kind. SoundTableBefore (table_with_prefix kind 25) → ⊥)
    × EachPrefixKind (λ kind. SoundTable (table_with_prefix kind 25))
