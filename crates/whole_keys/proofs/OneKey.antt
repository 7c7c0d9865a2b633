-- The first 192 bits of a key are the key itself, so two keys that agree in them are one key.
-- The prefix and the base of a key's own right are read back from its word by division; a Delete that succeeds has passed its row.
use Prim.Native.Nat.{ℕ, ◌*◌, ◌^◌, ◌<◌}
use native.Mathlib.Omega.{arith}
use native.Mathlib.Nat.{div-one, lt_trans}
use mathlib.Core.Path.{◌≡◌, sym, ap, ap₂, ◌∙◌}
use mathlib.Core.Logic.{◌↔◌}
use mathlib.Core.Bool.{true, true≢false}
use lib.Dec.{eqb, leb, lit<}
use borrow.Author.Tests.{eqb-true, eq-eqb, leb-true, le-leb}
use Rattle.rules.specs.Words.{key_bytes, Bytes}
use Rattle.rules.specs.Table.{store}
use Rattle.rules.specs.Capabilities.{delete, Capability, word_of, prefix, base, first_bits, covers_key, within_prefix, covers, within, greatest_prefix, prefix_up_to}
use Rattle.rules.specs.Messages.{data_of, named, key_word}
use Rattle.rules.specs.Answers.{fields, succeeds, Refusal, x33, ◌⇒◌, Result, refuse, outcome}
use Rattle.rules.specs.Calls.{chosen, not_covering, delete_row, own_row, format_row, named_row, system_row, system_call}
use Rattle.rules.specs.Examples.{prefix_of_key}
use Rattle.laws.proofs.Bools.{and_left, and_right}
use Rattle.laws.proofs.Numbers.{digits_div, digits_mod}
use Rattle.laws.proofs.KindFacts.{named-number}
use Rattle.laws.proofs.Rows.{member, passed-not, judge-cases}
use Rattle.whole_keys.specs.OneKey.{whole_key, ToOneKey, CoversOneKey, EveryKeyHasOne, ClosesOneKey, StaysOneKey}

all-bits : (key : ℕ) → first_bits whole_key key ≡ key
unfolding first_bits
all-bits key = div-one key

-- the first bits of two keys are compared as whole keys
module _ (c : Capability) (whole : ToOneKey c) where
  same_bits : (x y : ℕ) → eqb (first_bits (prefix c) x) (first_bits (prefix c) y) ≡ eqb x y
  same_bits x y = rw whole (ap₂ eqb (all-bits x) (all-bits y))

  covering : (key : ℕ) → covers_key c key ≡ eqb key (base c)
  unfolding covers_key
  covering key = same_bits key (base c)

  covers-its-base : (key : ℕ) → (covers_key c key ≡ true) ↔ (key ≡ base c)
  covers-its-base key = (λ q. eqb-true key (base c) (sym (covering key) ∙ q), λ e. covering key ∙ eq-eqb key (base c) e)

pub covers-one-key : CoversOneKey
unfolding covers
covers-one-key = (covers-its-base, (covers-its-base, (covers-its-base, tt)))

-- a key's own right
module _ (key : ℕ) (fits : key < 256 ^ key_bytes) where
  reaches-it : ToOneKey (prefix_of_key whole_key key)
  unfolding prefix word_of
  reaches-it = digits_div (256 ^ 31) whole_key key (lt_trans fits (lit< tt))

  in-range : leb (prefix (prefix_of_key whole_key key)) greatest_prefix ≡ true
  unfolding greatest_prefix
  in-range = le-leb (prefix (prefix_of_key whole_key key)) greatest_prefix (omega (arith, reaches-it))

  its-base : base (prefix_of_key whole_key key) ≡ key
  unfolding base word_of
  its-base = digits_mod (256 ^ key_bytes) (whole_key * 256 ^ 7) key fits

  has_one : ToOneKey (prefix_of_key whole_key key) × (base (prefix_of_key whole_key key) ≡ key) × (leb (prefix (prefix_of_key whole_key key)) greatest_prefix ≡ true)
  has_one = (reaches-it, its-base, in-range)

pub every-key-has-one : EveryKeyHasOne
unfolding prefix_up_to
every-key-has-one = (has_one, (has_one, (has_one, tt)))

-- a prefix in range is at most 192; that of a capability which lies within is at least 192
same-right : (b a : Capability) → ToOneKey a → leb (prefix b) greatest_prefix ≡ true → within_prefix b a ≡ true → ToOneKey b × (base b ≡ base a)
unfolding within_prefix greatest_prefix
same-right b a whole range q =
    let most = leb-true (prefix b) greatest_prefix range in
    let least = leb-true (prefix a) (prefix b) (and_left _ _ q) in
    let bits = and_right (leb (prefix a) (prefix b)) _ q in
    (omega arith, eqb-true (base b) (base a) (sym (same_bits a whole (base b) (base a)) ∙ bits))

pub stays-one-key : StaysOneKey
unfolding within prefix_up_to
stays-one-key = (same-right, (same-right, (same-right, tt)))

-- A Delete: a check that fails refuses, and one that has passed shows what is covered.
module _ (t d : Bytes) where
  abbrev OfItsBase : Result → Type 0
  OfItsBase r = succeeds (outcome t r).answer ≡ true → key_word d ≡ base (chosen (store t) d delete)

  refused : (code : Refusal) → OfItsBase (refuse code)
  unfolding succeeds outcome fields
  refused code q = absurd (true≢false (sym q))

pub closes-one-key : ClosesOneKey
unfolding system_call system_row format_row named_row own_row delete_row not_covering covers
closes-one-key t m code mask is whole =
    rw (ap named is ∙ named-number delete) (
    judge-cases (OfItsBase t d) _ _ (λ c i e. refused t d c.code) (λ ps success.
    (covers-its-base (chosen (store t) d delete) whole (key_word d)).0
    (passed-not (ps (not_covering (store t) d delete (key_word d) ⇒ x33) (search member depth 12)))))
  where
    d : Bytes
    d = data_of m
