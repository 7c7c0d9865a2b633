-- Keys and addresses stand right in a word: the leading bytes are zero where the number is less than a power of 256,
-- and then the bytes behind them have the word's number.
use Prim.Native.Nat.{ℕ, ◌-◌, ◌/◌, ◌%◌, ◌^◌, ◌≤◌, ◌<◌}
use native.Mathlib.Omega.{arith}
use native.Mathlib.Nat.{mod-eq_of_lt, div-one, div-eq_of_lt, div-lt_iff_lt-mul, one-le-pow, one-mul}
use mathlib.Core.Path.{◌≡◌, refl, sym, ap, ◌∙◌}
use mathlib.Core.Bool.{Bool, true, false, not}
use lib.Dec.{eqb, leb, ltb}
use lib.ListN.{length, take, drop, get_or, length-take, length-drop}
use borrow.Author.Tests.{eqb-true, eqb-false, eq-eqb, ne_eqb, ltb-true, ltb-false, lt-ltb, le-leb, lt-leb}
use Rattle.rules.specs.Words.{Bytes, num}
use Rattle.laws.proofs.Numerals.{all-bytes}
use Rattle.laws.proofs.Tests.{same_test}
use Rattle.laws.proofs.Words.{num-fits}
use Rattle.laws.proofs.Parts.{num-take, num-part}
use Rattle.limbs.proofs.Limbs.{Word}
use Rattle.key_words.specs.KeyWords.{KeyPart}

-- a quotient is zero where the number is less than the divisor
quotient-zero : (x m : ℕ) → 1 ≤ m → eqb (x / m) 0 ≡ ltb x m
quotient-zero x m h = same_test (eqb (x / m) 0) (ltb x m) there back
  where
    there : eqb (x / m) 0 ≡ true → ltb x m ≡ true
    there q = lt-ltb x m (rw one-mul at ((div-lt_iff_lt-mul {k = m} {x = x} {y = 1} h).0 (omega (arith, eqb-true (x / m) 0 q))))

    back : ltb x m ≡ true → eqb (x / m) 0 ≡ true
    back q = eq-eqb (x / m) 0 (div-eq_of_lt (ltb-true x m q))

pub not-zero : (x : ℕ) → not (eqb x 0) ≡ leb 1 x
not-zero x = go (eqb x 0) refl
  where
    go : (b : Bool) → eqb x 0 ≡ b → not b ≡ leb 1 x
    go true q = sym (lt-leb 1 x (omega (arith, eqb-true x 0 q)))
    go false q = sym (le-leb 1 x (let d = eqb-false x 0 q in omega arith))

module _ {w : Bytes} (is : Word w) where
  pub leading-zero : (n : ℕ) → n ≤ 32 → eqb (num (take n w)) 0 ≡ ltb (num w) (256 ^ (32 - n))
  leading-zero n h =
      ap (λ (x : ℕ). eqb x 0) (num-take w is.bytes n (32 - n) (omega (arith, is.size)))
      ∙ quotient-zero (num w) (256 ^ (32 - n)) (one-le-pow (32 - n) 256 (omega arith))

  -- the last 24 bytes
  pub last-key : KeyPart (num w) (take (length w - 8) (drop 8 w))
  last-key =
      rw is.size
      (record {
        size = simp (length-take, length-drop) (omega (arith, is.size));
        number = num-part w is.bytes 8 24 0 is.size ∙ ap (λ (x : ℕ). x % 256 ^ 24) (div-one (num w));
      })

-- the key of a word that is less than 256^24
pub key-number : {x : ℕ} {part : Bytes} → KeyPart x part → x < 256 ^ 24 → num part ≡ x
key-number p h = p.number ∙ mod-eq_of_lt h

-- a word that is not less is no key
pub not_same : (w key : Bytes) → length key ≡ 24 → ((i : ℕ) → get_or key i 0 < 256) → ltb (num w) (256 ^ 24) ≡ false → false ≡ eqb (num w) (num key)
not_same w key size values q =
    sym (ne_eqb (num w) (num key) (apart (num w) (num key) (256 ^ 24) (num-fits 24 key (all-bytes key values) size) (ltb-false (num w) (256 ^ 24) q)))
  where
    apart : (x y m : ℕ) → y < m → m ≤ x → x ≡ y → ⊥
    apart x y m h l p = omega arith
