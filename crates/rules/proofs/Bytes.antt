-- The number of bytes in two parts: dividing by 256 to the count of the last part drops it, and the rest of the division keeps it.
-- Each law is proved of bytes behind a number read before them, `num_after`, and then used for `num`.
use Prim.Native.Nat.{ℕ, ◌+◌, ◌*◌, ◌/◌, ◌%◌, ◌^◌, ◌<◌}
use native.Mathlib.Omega.{arith}
use native.Mathlib.Nat.{pow-suc}
use mathlib.Core.Path.{◌≡◌, refl, ap, ◌∙◌}
use mathlib.Core.List.{[], ◌∷◌, ◌++◌}
use lib.Arith.{digits_div, digits_mod}
use lib.ListN.{length}
use Rattle.rules.specs.Words.{Bytes, AllBytes, num_after, num}

pub num_after-append : (a : ℕ) (xs ys : Bytes) → num_after a (xs ++ ys) ≡ num_after (num_after a xs) ys
unfolding num_after
num_after-append a [] ys = refl
num_after-append a (x ∷ xs) ys = num_after-append (a * 256 + x) xs ys

pub num_after-num : (a : ℕ) (bs : Bytes) → num_after a bs ≡ a * 256 ^ length bs + num bs
unfolding num num_after
num_after-num a [] = omega arith
num_after-num a (b ∷ bs) =
    let P : ℕ = 256 ^ length bs in
    let front : num_after (a * 256 + b) bs ≡ (a * 256 + b) * P + num bs = num_after-num (a * 256 + b) bs in
    let alone : num_after (0 * 256 + b) bs ≡ (0 * 256 + b) * P + num bs = num_after-num (0 * 256 + b) bs in
    rw (pow-suc, front, alone) (omega arith)

pub num-append : (xs ys : Bytes) → num (xs ++ ys) ≡ num xs * 256 ^ length ys + num ys
unfolding num
num-append xs ys = num_after-append 0 xs ys ∙ num_after-num (num xs) ys

-- the number that bytes stand for is below 256 to their count
num_after-bound : (bs : Bytes) (a A : ℕ) → a < A → AllBytes bs → num_after a bs < A * 256 ^ length bs
unfolding num_after
num_after-bound [] a A h v = omega arith
num_after-bound (b ∷ bs) a A h v =
    let rest = num_after-bound bs (a * 256 + b) (A * 256) (omega arith) v.1 in
    rw (pow-suc 256 (length bs)) (omega arith)

pub num-fits : (n : ℕ) (bs : Bytes) → AllBytes bs → length bs ≡ n → num bs < 256 ^ n
unfolding num
num-fits n bs v q = let below = num_after-bound bs 0 1 (omega arith) v in rw (← q) (omega arith)

-- the last n bytes, dropped and kept
module _ (n : ℕ) (xs ys : Bytes) (v : AllBytes ys) (l : length ys ≡ n) where
  parts : num (xs ++ ys) ≡ num xs * 256 ^ n + num ys
  parts = num-append xs ys ∙ ap (λ (k : ℕ). num xs * 256 ^ k + num ys) l

  pub drops-last : num (xs ++ ys) / 256 ^ n ≡ num xs
  drops-last = ap (λ (x : ℕ). x / 256 ^ n) parts ∙ digits_div (num xs) (num-fits n ys v l)

  pub keeps-last : num (xs ++ ys) % 256 ^ n ≡ num ys
  keeps-last = ap (λ (x : ℕ). x % 256 ^ n) parts ∙ digits_mod (num xs) (num-fits n ys v l)
