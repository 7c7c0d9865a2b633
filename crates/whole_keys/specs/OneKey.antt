-- Document 02, No. 2: "no ward can hold a right to close one referral". With a prefix of 192 bits it can, whichever referral
-- that is: such a right covers its base key and no other.
use Rattle.std.specs.Prelude.{ℕ, ◌*◌, ◌^◌, ◌<◌, ◌≡◌, ◌↔◌, true}
use Rattle.rules.specs.Words.{key_bytes, Bytes}
use Rattle.rules.specs.Table.{store}
use Rattle.rules.specs.Capabilities.{delete, number, Capability, prefix, base, covers, within, prefix_in_range}
use Rattle.rules.specs.Messages.{type_of, data_of, key_word}
use Rattle.rules.specs.Calls.{chosen, system_call}
use Rattle.rules.specs.Answers.{succeeds}
use Rattle.rules.specs.Examples.{EachPrefixKind, prefix_of_key}

-- all the bits of a key: 192
abbrev pub whole_key : ℕ
whole_key = 8 * key_bytes

-- a right to one key: all bits are compared; bytes 1 to 7 of its word may hold anything
abbrev pub ToOneKey : Capability → Type 0
ToOneKey c = prefix c ≡ whole_key

-- It covers its base key and no other.
abbrev pub CoversOneKey : Type 0
CoversOneKey =
    EachPrefixKind (λ kind. (c : Capability) → ToOneKey c → (key : ℕ) → (covers kind c key ≡ true) ↔ (key ≡ base c))

-- Every key has one, in range: 192 in byte 0 of its word, the key in bytes 8 to 31.
abbrev pub EveryKeyHasOne : Type 0
EveryKeyHasOne =
    EachPrefixKind (λ kind. (key : ℕ) → key < 256 ^ key_bytes
    → ToOneKey (prefix_of_key whole_key key)
    × (base (prefix_of_key whole_key key) ≡ key)
    × (prefix_in_range kind (prefix_of_key whole_key key) ≡ true))

-- A Delete that names such a right and succeeds is of its base key, whatever the table and the message hold besides.
abbrev pub ClosesOneKey : Type 0
ClosesOneKey = (t m code mask : Bytes) → type_of m ≡ number delete → ToOneKey (chosen (store t) (data_of m) delete)
    → succeeds (system_call t m code mask).answer ≡ true → key_word (data_of m) ≡ base (chosen (store t) (data_of m) delete)

-- What lies within it, and is in range, is a right to the same key: handed on, it does not grow.
abbrev pub StaysOneKey : Type 0
StaysOneKey =
    EachPrefixKind (λ kind. (b a : Capability) → ToOneKey a → prefix_in_range kind b ≡ true → within kind b a ≡ true
    → ToOneKey b × (base b ≡ base a))
