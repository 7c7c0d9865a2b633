-- The keys of kernel storage: a slot is a number of digits, so its region, middle and end can be read back and decide the order.
-- That the parts fit their bytes, `Fits`, is what each law asks for.
use Prim.Native.Nat.{ℕ, ◌+◌, ◌*◌, ◌/◌, ◌%◌, ◌^◌, ◌≤◌, ◌<◌}
use native.Mathlib.Omega.{arith}
use native.Mathlib.Nat.{le_refl, add_left_cancel, add-lt-add_of_le_of_lt}
use mathlib.Core.Path.{◌≡◌, ap, ◌∙◌}
use mathlib.Core.Bool.{true}
use lib.Dec.{lit<}
use borrow.Author.Tests.{eq-eqb}
use Rattle.rules.specs.KernelStorage.{kernel_mark, in_kernel_storage, slot, middle_of, end_second, end_third, ending, word_slot, place_slot}
use Rattle.laws.proofs.Numbers.{digits-less, digits-high, digits_low, digits-bound, digits_div, digits_mod}

-- A region, a middle and an end that fit their bytes.
pub record Fits (r m e : ℕ) : Type 0 where
  pub region : r < 256
  pub middle : m < 2 ^ 192
  pub end : e < 2 ^ 24

-- the slots of a procedure, of a place of the list, and those that there is one of
pub in_procedure : (p : ℕ) → p < 2 ^ 192 → (e : ℕ) → e < 2 ^ 24 → Fits 0 p e
in_procedure p hp e he = record { region = omega arith; middle = hp; end = he }

pub at_place : (n : ℕ) → n < 2 ^ 192 → Fits 1 n 0
at_place n h = record { region = omega arith; middle = h; end = lit< tt }

pub fixed : (r : ℕ) → r < 256 → Fits r 0 0
fixed r h = record { region = h; middle = lit< tt; end = lit< tt }

-- Ends of three bytes.
pub ending-fits : (a b c : ℕ) → a < 256 → b < 256 → c < 256 → ending a b c < 2 ^ 24
unfolding ending
ending-fits a b c h l m = omega arith

pub zero-end : ending 0 0 0 < 2 ^ 24
unfolding ending
zero-end = lit< tt

pub one_end : ending 0 0 1 < 2 ^ 24
unfolding ending
one_end = lit< tt

-- the end of an index is not that of a type
pub ending-one : (a b c : ℕ) → 3 ≤ a → ending a b c ≡ 1 → ⊥
unfolding ending
ending-one a b c h q = omega arith

-- The digits of a slot: `front r m * 2 ^ 24 + e`.
abbrev marked : (r : ℕ) → ℕ
marked r = kernel_mark * 256 + r

abbrev front : (r m : ℕ) → ℕ
front r m = marked r * 2 ^ 192 + m

-- Two slots that are the same have the same parts.
module _ {r m e r' m' e' : ℕ} (f : Fits r m e) (f' : Fits r' m' e') (q : slot r m e ≡ slot r' m' e') where
  slot-front : front r m ≡ front r' m'
  unfolding slot
  slot-front = digits-high (2 ^ 24) (front r m) e (front r' m') e' f.end f'.end q

  pub slot-region : r ≡ r'
  slot-region =
      let same : marked r ≡ marked r' = digits-high (2 ^ 192) (marked r) m (marked r') m' f.middle f'.middle slot-front in
      omega arith

  pub slot-middle : m ≡ m'
  slot-middle = digits_low (2 ^ 192) (marked r) m (marked r') m' f.middle f'.middle slot-front

  pub slot-end : e ≡ e'
  unfolding slot
  slot-end = digits_low (2 ^ 24) (front r m) e (front r' m') e' f.end f'.end q

pub regions-apart : {r m e r' m' e' : ℕ} → Fits r m e → Fits r' m' e' → (r ≡ r' → ⊥) → slot r m e ≡ slot r' m' e' → ⊥
regions-apart f f' d q = d (slot-region f f' q)

-- place slots are apart whatever the place
pub place_slot-inj : (m n : ℕ) → place_slot m ≡ place_slot n → m ≡ n
unfolding place_slot slot
place_slot-inj m n q =
    add_left_cancel (marked 1 * 2 ^ 192) (digits-high (2 ^ 24) (front 1 m) 0 (front 1 n) 0 (lit< tt) (lit< tt) q)

-- A slot's parts, read back by division.
pub slot-middle_of : {r m e : ℕ} → Fits r m e → middle_of (slot r m e) ≡ m
unfolding middle_of slot
slot-middle_of {r} {m} {e} f =
    ap (λ (x : ℕ). x % 2 ^ 192) (digits_div (2 ^ 24) (front r m) e f.end) ∙ digits_mod (2 ^ 192) (marked r) m f.middle

-- the last two bytes of a capability word's slot
pub word_slot-second : (p type i k : ℕ) → i < 256 → k < 256 → end_second (word_slot p type i k) ≡ i
unfolding end_second word_slot slot ending
word_slot-second p type i k a b = second (front 0 p)
  where
    second : (x : ℕ) → (x * 2 ^ 24 + ((type * 256 + i) * 256 + k)) / 256 % 256 ≡ i
    second x = omega arith

pub word_slot-third : (p type i k : ℕ) → k < 256 → end_third (word_slot p type i k) ≡ k
unfolding end_third word_slot slot ending
word_slot-third p type i k b = third (front 0 p)
  where
    third : (x : ℕ) → (x * 2 ^ 24 + ((type * 256 + i) * 256 + k)) % 256 ≡ k
    third x = omega arith

-- a slot lies in kernel storage
pub slot-in_kernel_storage : {r m e : ℕ} → Fits r m e → in_kernel_storage (slot r m e) ≡ true
unfolding in_kernel_storage slot
slot-in_kernel_storage {r} {m} {e} f =
    eq-eqb _ _ (
    ap (λ (x : ℕ). x / 2 ^ 224) (regroup (2 ^ 192) (2 ^ 24) kernel_mark)
    ∙ digits_div (2 ^ 224) kernel_mark ((r * 2 ^ 192 + m) * 2 ^ 24 + e)
    (digits-bound (256 * 2 ^ 192) (2 ^ 24) (r * 2 ^ 192 + m) e (digits-bound 256 (2 ^ 192) r m f.region f.middle) f.end))
  where
    regroup : (x y mark : ℕ) → ((mark * 256 + r) * x + m) * y + e ≡ mark * (256 * x * y) + ((r * x + m) * y + e)
    regroup x y mark = omega arith

-- Slots stand in the order of their regions, then of their middles, then of their ends.
pub slot-less-region : {r m e r' : ℕ} (m' e' : ℕ) → Fits r m e → r < r' → slot r m e < slot r' m' e'
unfolding slot
slot-less-region {r} {m} {e} {r'} m' e' f l =
    digits-less (2 ^ 24) (front r m) e (front r' m') e' f.end
    (digits-less (2 ^ 192) (marked r) m (marked r') m' f.middle (omega arith))

pub slot-less-middle : {r m e m' : ℕ} (e' : ℕ) → Fits r m e → m < m' → slot r m e < slot r m' e'
unfolding slot
slot-less-middle {r} {m} {e} {m'} e' f l =
    digits-less (2 ^ 24) (front r m) e (front r m') e' f.end (add-lt-add_of_le_of_lt (le_refl (marked r * 2 ^ 192)) l)

pub slot-less-end : (r m : ℕ) {e e' : ℕ} → e < e' → slot r m e < slot r m e'
unfolding slot
slot-less-end r m l = add-lt-add_of_le_of_lt (le_refl (front r m * 2 ^ 24)) l

-- ends are told apart by their bytes
pub ending-type : (a b c a' b' c' : ℕ) → b < 256 → b' < 256 → c < 256 → c' < 256 → ending a b c ≡ ending a' b' c' → a ≡ a'
unfolding ending
ending-type a b c a' b' c' h h' l l' q = omega arith

pub ending-middle : (a b c a' b' c' : ℕ) → b < 256 → b' < 256 → c < 256 → c' < 256 → ending a b c ≡ ending a' b' c' → b ≡ b'
unfolding ending
ending-middle a b c a' b' c' h h' l l' q = omega arith

pub ending-last : (a b c a' b' c' : ℕ) → b < 256 → b' < 256 → c < 256 → c' < 256 → ending a b c ≡ ending a' b' c' → c ≡ c'
unfolding ending
ending-last a b c a' b' c' h h' l l' q = omega arith
