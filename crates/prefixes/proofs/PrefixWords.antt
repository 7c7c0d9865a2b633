-- The word of a prefix capability, read from its bytes: the first byte is the prefix, the last 24 bytes are the base key.
-- What a comparison of these says is what the rules say of the capability.
use Prim.Native.Nat.{ℕ, ◌+◌, ◌*◌, ◌%◌, ◌^◌, ◌≤◌, ◌<◌}
use native.Mathlib.Omega.{arith}
use native.Mathlib.Nat.{div-one}
use mathlib.Core.Path.{◌≡◌, sym, ap, ◌∙◌}
use mathlib.Core.List.{[], ◌∷◌}
use mathlib.Core.Bool.{Bool, false}
use lib.Dec.{eqb}
use lib.ListN.{length, get_or}
use borrow.Author.Tests.{le-leb, lt-leb}
use Rattle.rules.specs.Words.{Bytes, num}
use Rattle.rules.specs.Capabilities.{word_of, prefix, base, first_bits, covers_key, within_prefix}
use Rattle.laws.proofs.Numerals.{all-bytes, num-zeros, num-suc}
use Rattle.laws.proofs.Parts.{num-take, num-part}
use Rattle.prefixes.specs.Prefixes.{KeyPart}

-- a word in bytes
pub record Word (w : Bytes) : Type 0 where
  pub size : length w ≡ 32
  pub values : (i : ℕ) → get_or w i 0 < 256

module _ {w : Bytes} (is : Word w) where
  pub prefix-byte : prefix (num w ∷ []) ≡ get_or w 0 0
  unfolding prefix word_of
  prefix-byte =
      sym (num-take w (all-bytes w is.values) 1 31 is.size)
      ∙ num-suc w 0 (omega arith)
      ∙ ap (λ (x : ℕ). x * 256 + get_or w 0 0) (num-zeros 0)
      ∙ omega arith

  base-bytes : {part : Bytes} → KeyPart w part → num part ≡ base (num w ∷ [])
  unfolding base word_of
  base-bytes p =
      ap num p.is ∙ num-part w (all-bytes w is.values) 8 24 0 is.size ∙ ap (λ (x : ℕ). x % 256 ^ 24) (div-one (num w))

  pub key-covered : (key : ℕ) {part : Bytes} {s : ℕ} {r : Bool} → s ≡ prefix (num w ∷ []) → KeyPart w part
      → r ≡ eqb (first_bits s key) (first_bits s (num part)) → r ≡ covers_key (num w ∷ []) key
  unfolding covers_key
  key-covered key e p q = q ∙ rw (e, base-bytes p)

-- b within a, by their prefixes s of a and t of b
module _ {a b : Bytes} (is_a : Word a) (is_b : Word b) {s t : ℕ} (p : s ≡ prefix (num a ∷ [])) (q : t ≡ prefix (num b ∷ [])) where
  pub longer-within : s ≤ t → {part_a part_b : Bytes} {r : Bool} → KeyPart a part_a → KeyPart b part_b
      → r ≡ eqb (first_bits s (num part_b)) (first_bits s (num part_a)) → r ≡ within_prefix (num b ∷ []) (num a ∷ [])
  unfolding within_prefix
  longer-within l base_a base_b e = e ∙ rw (← p, ← q, le-leb s t l, base-bytes is_a base_a, base-bytes is_b base_b)

  pub shorter-not-within : t < s → false ≡ within_prefix (num b ∷ []) (num a ∷ [])
  unfolding within_prefix
  shorter-not-within l = rw (← p, ← q, lt-leb s t l)
