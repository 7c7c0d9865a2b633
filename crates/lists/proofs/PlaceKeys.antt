-- The key of a place, by its bytes: those before the last four of the middle are the list length's, those four are the place's number,
-- and the end is zero.
use Rattle.std.proofs.Common.{ℕ, ◌+◌, ◌*◌, ◌/◌, ◌%◌, ◌^◌, ◌<◌, arith, ◌≡◌, refl, sym, ◌∙◌, ◌≢◌, Bool, true, false, eqb, length, take, drop, get_or, eqb-true, ne_eqb}
use borrow.Author.Tests.{eqb-false}
use Rattle.rules.specs.Words.{Bytes, word_bytes, num}
use Rattle.rules.specs.KernelStorage.{kernel_mark, slot, length_slot, place_slot}
use Rattle.laws.proofs.Tests.{eqb_same}
use Rattle.laws.proofs.Numerals.{all-bytes}
use Rattle.laws.proofs.Parts.{num-take, num-part}
use Rattle.limbs.specs.Limbs.{limb_base}

-- the parts of a key
module _ (key : Bytes) (size : length key ≡ word_bytes) (fits : (i : ℕ) → get_or key i 0 < 256) where
  pub front_read : num (take 25 key) ≡ num key / 256 ^ 7
  front_read = num-take key (all-bytes key fits) 25 7 size

  pub number_read : num (take 4 (drop 25 key)) ≡ num key / 256 ^ 3 % 256 ^ 4
  number_read = num-part key (all-bytes key fits) 25 4 3 size

  pub end_read : num (take 3 (drop 29 key)) ≡ num key % 256 ^ 3
  end_read = num-part key (all-bytes key fits) 29 3 0 size ∙ omega arith

-- a place's key is so many ends behind the list length's, which is zero there
shifted : (a n : ℕ) → (a + n) * 16777216 + 0 ≡ (a + 0) * 16777216 + 0 + n * 16777216
shifted a n = omega arith

place_is : (n : ℕ) → place_slot n ≡ length_slot + n * 16777216
unfolding length_slot place_slot slot
place_is n = shifted ((kernel_mark * 256 + 1) * 256 ^ 24) n

length-low : length_slot % 256 ^ 7 ≡ 0
unfolding length_slot slot
length-low = refl

module _ (k n : ℕ) (small : n < limb_base) {f g : ℕ} (front_k : f ≡ k / 256 ^ 7) (front_l : g ≡ length_slot / 256 ^ 7) {a : Bool} (e : a ≡ eqb f g) where
  pub other-front : a ≡ false → false ≡ eqb k (place_slot n)
  other-front q = sym (ne_eqb k (place_slot n) (λ z. eqb-false f g (sym e ∙ q) (omega (arith, place_is n, length-low))))

  module _ (q : a ≡ true) {m : ℕ} (number : m ≡ k / 256 ^ 3 % 256 ^ 4) where
    pub other-number : m ≢ n → false ≡ eqb k (place_slot n)
    other-number d = sym (ne_eqb k (place_slot n) (λ z. d (omega (arith, place_is n, length-low))))

    pub end-decides : m ≡ n → {x : ℕ} → x ≡ k % 256 ^ 3 → {r : Bool} → r ≡ eqb x 0 → r ≡ eqb k (place_slot n)
    end-decides z {x} end h =
        let same : f ≡ g = eqb-true f g (sym e ∙ q) in
        h ∙ eqb_same x 0 k (place_slot n) (λ y. omega (arith, place_is n, length-low)) (λ y. omega (arith, place_is n, length-low))
