-- The first bits of a key, read from its bytes: the whole bytes, and the first bits of the byte behind them, are the two digits
-- of the number that they stand for. So two keys agree in their first bits where they agree in both digits.
use Prim.Native.Nat.{ℕ, zero, suc, ◌+◌, ◌*◌, ◌-◌, ◌/◌, ◌%◌, ◌^◌, ◌≤◌, ◌<◌}
use native.Mathlib.Omega.{arith}
use native.Mathlib.Nat.{add-zero, mul-add-div_right, pow-suc}
use mathlib.Core.Path.{◌≡◌, refl, sym, ap, ap₂, ◌∙◌}
use mathlib.Core.Logic.{◌≢◌, ◌⊎◌, inl, inr}
use mathlib.Core.Bool.{Bool, true, false, ◌&&◌, and-true}
use lib.Bits.{bit_and, and_high}
use lib.Dec.{eqb}
use lib.ListN.{length, take, get_or, get_or-eq_default}
use lib.Pow.{pow-add, pow_pos, shr-shr, shr_mod, shr_lt}
use borrow.Author.Tests.{eqb-true, eqb-false, eq-eqb, ne_eqb}
use Rattle.rules.specs.Words.{Bytes, AllBytes, num}
use Rattle.rules.specs.Capabilities.{first_bits}
use Rattle.rules.specs.Sound.{all_places}
use Rattle.laws.proofs.Lists.{places-true}
use Rattle.laws.proofs.Numbers.{same_or_not, digits-high, digits_low}
use Rattle.laws.proofs.Numerals.{all-bytes, num-suc}
use Rattle.laws.proofs.Parts.{byte_at, num-take}
use Rattle.laws.proofs.Words.{take-bytes}
use Rattle.equality.proofs.Bytes.{same-bytes}
use Rattle.std.specs.Cmp.Lexicographic.{pointwise}
use Rattle.std.proofs.Common.{length-take}

-- two numbers of two digits are the same where both digits are
eqb-digits : (B a b a' b' : ℕ) → b < B → b' < B → eqb (a * B + b) (a' * B + b') ≡ (eqb a a' && eqb b b')
eqb-digits B a b a' b' h h' = go (eqb a a') (eqb b b') refl refl
  where
    go : (t u : Bool) → eqb a a' ≡ t → eqb b b' ≡ u → eqb (a * B + b) (a' * B + b') ≡ (t && u)
    go true true p q = eq-eqb _ _ (ap₂ (λ (x y : ℕ). x * B + y) (eqb-true a a' p) (eqb-true b b' q))
    go true false p q = ne_eqb _ _ (λ e. eqb-false b b' q (digits_low B a b a' b' h h' e))
    go false u p q = ne_eqb _ _ (λ e. eqb-false a a' p (digits-high B a b a' b' h h' e))

-- The mask of the first p bits of a byte.
mask_is : (p : ℕ) → 1 ≤ p → p ≤ 7 → 255 - 255 / 2 ^ p ≡ 2 ^ (p + (8 - p)) - 2 ^ (8 - p)
unfolding all_places
mask_is p l h = eqb-true _ _ (places-true (λ p. eqb (255 - 255 / 2 ^ p) (2 ^ (p + (8 - p)) - 2 ^ (8 - p))) 7 refl p l h)

-- what it leaves of a byte: the first p bits, and zeros behind them
masked-byte : (p x : ℕ) → 1 ≤ p → p ≤ 7 → x < 256 → bit_and x (255 - 255 / 2 ^ p) ≡ x / 2 ^ (8 - p) * 2 ^ (8 - p)
masked-byte p x l h b =
    let e : p + (8 - p) ≡ 8 = omega arith in
    let fits : x < 2 ^ (p + (8 - p)) = rw e b in
    rw (mask_is p l h, and_high x p (8 - p), shr_mod p (8 - p) fits)

pub masked : (p x y : ℕ) → 1 ≤ p → p ≤ 7 → x < 256 → y < 256
    → eqb (bit_and x (255 - 255 / 2 ^ p)) (bit_and y (255 - 255 / 2 ^ p)) ≡ eqb (x / 2 ^ (8 - p)) (y / 2 ^ (8 - p))
masked p x y l h bx by =
    ap₂ eqb (masked-byte p x l h bx ∙ sym (add-zero _)) (masked-byte p y l h by ∙ sym (add-zero _))
    ∙ eqb-digits (2 ^ (8 - p)) (x / 2 ^ (8 - p)) 0 (y / 2 ^ (8 - p)) 0 (pow_pos (8 - p)) (pow_pos (8 - p))
    ∙ and-true _

-- The first bits of one key.
bytes_bits : (k : ℕ) → 256 ^ k ≡ 2 ^ (8 * k)
bytes_bits zero = refl
bytes_bits (suc k) =
    let e : 8 * k + 8 ≡ 8 * suc k = omega arith in
    pow-suc 256 k ∙ ap (λ (x : ℕ). x * 256) (bytes_bits k) ∙ sym (pow-add 2 (8 * k) 8) ∙ ap (λ (x : ℕ). 2 ^ x) e

-- the first r bits of a byte are a digit below 2^r
digit-fits : (bs : Bytes) → AllBytes bs → (q r : ℕ) → r < 8 → get_or bs q 0 / 2 ^ (8 - r) < 2 ^ r
digit-fits bs v q r l =
    let eight : r + (8 - r) ≡ 8 = omega arith in
    let byte : get_or bs q 0 < 2 ^ (r + (8 - r)) = rw eight (byte_at bs v q) in
    shr_lt r (8 - r) byte

module _ (bs : Bytes) (v : AllBytes bs) (size : length bs ≡ 24) where
  -- the first q bytes
  first-bytes : (q k : ℕ) → q + k ≡ 24 → num bs / 2 ^ (8 * k) ≡ num (take q bs)
  first-bytes q k e = sym (num-take bs v q k (omega arith) ∙ ap (λ (x : ℕ). num bs / x) (bytes_bits k))

  -- the first q bytes and r bits
  first-digits : (q r : ℕ) → r < 8 → 8 * q + r ≤ 192 → first_bits (8 * q + r) (num bs) ≡ num (take q bs) * 2 ^ r + get_or bs q 0 / 2 ^ (8 - r)
  unfolding first_bits
  first-digits q r l h = go (same_or_not q 24)
    where
      go : (q ≡ 24) ⊎ (q ≢ 24) → num bs / 2 ^ (192 - (8 * q + r)) ≡ num (take q bs) * 2 ^ r + get_or bs q 0 / 2 ^ (8 - r)
      go (inl e) =
          let all : 192 - (8 * q + r) ≡ 8 * 0 = omega arith in
          let none : r ≡ 0 = omega arith in
          let past : get_or bs q 0 ≡ 0 = get_or-eq_default bs 0 (omega arith) in
          rw (all, first-bytes q 0 (omega arith), none, past) (omega arith)
      go (inr d) =
          let split : 192 - (8 * q + r) ≡ 8 * (23 - q) + (8 - r) = omega arith in
          let eight : r + (8 - r) ≡ 8 = omega arith in
          let parts : 2 ^ r * 2 ^ (8 - r) ≡ 256 = sym (pow-add 2 r (8 - r)) ∙ ap (λ (x : ℕ). 2 ^ x) eight in
          let next : num (take (suc q) bs) ≡ num (take q bs) * 2 ^ r * 2 ^ (8 - r) + get_or bs q 0 =
          num-suc bs q (omega arith) ∙ ap (λ (x : ℕ). num (take q bs) * x + get_or bs q 0) (sym parts) ∙ omega arith in
          rw (split, ← shr-shr, first-bytes (suc q) (23 - q) (omega arith), next)
          (mul-add-div_right (pow_pos (8 - r)) (num (take q bs) * 2 ^ r) (get_or bs q 0))

-- Two keys and how many of their first bits are compared.
pub record Compared (s : ℕ) (a b : Bytes) : Type 0 where
  pub fits : s ≤ 192
  pub size_a : length a ≡ 24
  pub size_b : length b ≡ 24
  pub values_a : (i : ℕ) → get_or a i 0 < 256
  pub values_b : (i : ℕ) → get_or b i 0 < 256

pub compared : (s : ℕ) (a b : Bytes) → (s ≤ 8 * 24) × (length a ≡ 24) × (length b ≡ 24)
    → ((i : ℕ) → get_or a i 0 < 256) → ((i : ℕ) → get_or b i 0 < 256) → Compared s a b
compared s a b (h, la, lb) va vb = record { fits = h; size_a = la; size_b = lb; values_a = va; values_b = vb }

-- the first s bits are the same where the whole bytes are, and the first bits of the byte behind them
module _ {s : ℕ} {a b : Bytes} (k : Compared s a b) where
  abbrev same_whole : Bool
  same_whole = eqb (num (take (s / 8) a)) (num (take (s / 8) b))

  abbrev same_part : Bool
  same_part = eqb (get_or a (s / 8) 0 / 2 ^ (8 - s % 8)) (get_or b (s / 8) 0 / 2 ^ (8 - s % 8))

  abbrev same_first : Bool
  same_first = eqb (first_bits s (num a)) (first_bits s (num b))

  both : same_first ≡ (same_whole && same_part)
  both =
      let bits : s ≡ 8 * (s / 8) + s % 8 = omega arith in
      let small : s % 8 < 8 = omega arith in
      let fits : 8 * (s / 8) + s % 8 ≤ 192 = omega (arith, k.fits) in
      let is_a : AllBytes a = all-bytes a k.values_a in
      let is_b : AllBytes b = all-bytes b k.values_b in
      ap (λ (x : ℕ). eqb (first_bits x (num a)) (first_bits x (num b))) bits
      ∙ ap₂ eqb (first-digits a is_a k.size_a (s / 8) (s % 8) small fits) (first-digits b is_b k.size_b (s / 8) (s % 8) small fits)
      ∙ eqb-digits (2 ^ (s % 8)) _ _ _ _ (digit-fits a is_a (s / 8) (s % 8) small) (digit-fits b is_b (s / 8) (s % 8) small)

  -- the whole bytes, as the library compares them
  pub whole-same : {r : Bool} → r ≡ pointwise eqb (take (s / 8) a) (take (s / 8) b) → r ≡ same_whole
  whole-same =
      same-bytes (take (s / 8) a) (take (s / 8) b) (take-bytes (s / 8) a (all-bytes a k.values_a)) (take-bytes (s / 8) b (all-bytes b k.values_b))
      (simp length-take (omega (arith, k.size_a, k.size_b)))

  -- and as the code answers
  told : {r t : Bool} → r ≡ same_whole → r ≡ t → same_whole ≡ t
  told p e = sym p ∙ e

  pub whole-differ : {r : Bool} → r ≡ same_whole → r ≡ false → false ≡ same_first
  whole-differ p e = sym (both ∙ rw (told p e))

  pub part-decides : {r t : Bool} → r ≡ same_whole → r ≡ true → t ≡ same_part → t ≡ same_first
  part-decides p e q = q ∙ sym (both ∙ rw (told p e))

  -- without a partial byte, no bit of the byte behind them is compared
  pub whole-decides : {r : Bool} → r ≡ same_whole → r ≡ true → s % 8 ≡ 0 → true ≡ same_first
  whole-decides p e z = part-decides p e (sym (eq-eqb _ _ (none a k.values_a ∙ sym (none b k.values_b))))
    where
      none : (bs : Bytes) → ((i : ℕ) → get_or bs i 0 < 256) → get_or bs (s / 8) 0 / 2 ^ (8 - s % 8) ≡ 0
      none bs values = rw z (omega (arith, values (s / 8)))
