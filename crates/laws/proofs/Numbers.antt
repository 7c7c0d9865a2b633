-- Two numbers are compared or told apart; and numbers with a high and a low digit, a * B + b with b below B.
-- The high digit decides which of two such numbers is less, so both digits can be read back.
use Prim.Native.Nat.{ℕ, suc, ◌+◌, ◌*◌, ◌/◌, ◌≤◌, ◌<◌, ◌%◌}
use native.Mathlib.Omega.{arith}
use mathlib.Core.Path.{◌≡◌, refl, ap, ◌∙◌}
use mathlib.Core.Logic.{◌≢◌, ◌⊎◌, inl, inr}
use mathlib.Core.Bool.{Bool, true, false}
use lib.Dec.{eqb, ltb}
use borrow.Author.Tests.{ltb-true, ltb-false, eqb-true, eqb-false}
use native.Mathlib.Nat.{mul-le-mul_right, mul-add-div_right, div-eq_of_lt, mod-eq_of_lt, mul-add-mod_self_right, add-zero}

-- a number is another, or not
pub same_or_not : (a b : ℕ) → (a ≡ b) ⊎ (a ≡ b → ⊥)
same_or_not a b = go (eqb a b) refl
  where
    go : (x : Bool) → eqb a b ≡ x → (a ≡ b) ⊎ (a ≡ b → ⊥)
    go true q = inl (eqb-true a b q)
    go false q = inr (eqb-false a b q)

-- a number is before, at or after another
pub data Order (a b : ℕ) : Type 0 where
  less : a < b → Order a b
  equal : a ≡ b → Order a b
  more : b < a → Order a b

pub order : (a b : ℕ) → Order a b
order a b = go (ltb a b) refl (same_or_not a b)
  where
    go : (x : Bool) → ltb a b ≡ x → (a ≡ b) ⊎ (a ≢ b) → Order a b
    go true p o = less (ltb-true a b p)
    go false p (inl q) = equal q
    go false p (inr d) = more (omega (arith, ltb-false a b p))

-- digits: the high one decides
pub digits-less : (B a b a' b' : ℕ) → b < B → a < a' → a * B + b < a' * B + b'
digits-less B a b a' b' h l = let m : suc a * B ≤ a' * B = mul-le-mul_right B l in omega arith

pub digits-high : (B a b a' b' : ℕ) → b < B → b' < B → a * B + b ≡ a' * B + b' → a ≡ a'
digits-high B a b a' b' h h' e = go (order a a')
  where
    go : Order a a' → a ≡ a'
    go (less l) = let m = digits-less B a b a' b' h l in absurd (omega arith)
    go (equal q) = q
    go (more l) = let m = digits-less B a' b' a b h' l in absurd (omega arith)

pub digits_low : (B a b a' b' : ℕ) → b < B → b' < B → a * B + b ≡ a' * B + b' → b ≡ b'
digits_low B a b a' b' h h' e = let q = ap (λ (x : ℕ). x * B) (digits-high B a b a' b' h h' e) in omega arith

pub digits-bound : (A B a b : ℕ) → a < A → b < B → a * B + b < A * B
digits-bound A B a b h l = let m : suc a * B ≤ A * B = mul-le-mul_right B h in omega arith

-- the two digits, read by division
pub digits_div : (B a b : ℕ) → b < B → (a * B + b) / B ≡ a
digits_div B a b h = mul-add-div_right (omega arith) a b ∙ ap (λ (x : ℕ). a + x) (div-eq_of_lt h) ∙ add-zero a

pub digits_mod : (B a b : ℕ) → b < B → (a * B + b) % B ≡ b
digits_mod B a b h = mul-add-mod_self_right a B b ∙ mod-eq_of_lt h

-- a number that is not zero is at least one
pub non_zero : (x : ℕ) → eqb x 0 ≡ false → 1 ≤ x
non_zero x q = let h : x ≢ 0 = eqb-false x 0 q in omega arith
