-- The number of a part of bytes: a quotient takes off the bytes behind the part, a remainder those before it.
-- `rest` is how many bytes stand behind the part.
use Prim.Native.Nat.{ℕ, zero, suc, ◌+◌, ◌/◌, ◌%◌, ◌^◌, ◌<◌}
use native.Mathlib.Omega.{arith}
use mathlib.Core.Path.{◌≡◌, sym, ap, ◌∙◌}
use mathlib.Core.List.{[], ◌∷◌}
use lib.ListN.{length, take, drop, get_or, take-append-drop, length-take, length-drop}
use Rattle.rules.specs.Words.{Bytes, AllBytes, num}
use Rattle.laws.proofs.Numbers.{digits_div, digits_mod}
use Rattle.laws.proofs.Words.{num-fits, take-bytes, drop-bytes}
use Rattle.laws.proofs.Numerals.{num-append, num-suc, num-more}

pub byte_at : (bs : Bytes) → AllBytes bs → (n : ℕ) → get_or bs n 0 < 256
byte_at [] v n = omega arith
byte_at (b ∷ bs) v zero = v.0
byte_at (b ∷ bs) v (suc n) = byte_at bs v.1 n

module _ (bs : Bytes) (v : AllBytes bs) where
  -- the first n bytes
  pub num-take : (n rest : ℕ) → length bs ≡ n + rest → num (take n bs) ≡ num bs / 256 ^ rest
  num-take n rest q =
      let size : length (drop n bs) ≡ rest = simp length-drop (omega arith) in
      let low : num (drop n bs) < 256 ^ rest = num-fits rest (drop n bs) (drop-bytes n bs v) size in
      let whole = ap num (sym (take-append-drop n bs)) ∙ num-append (take n bs) (drop n bs) in
      sym (digits_div (256 ^ rest) (num (take n bs)) (num (drop n bs)) low) ∙ rw (whole, size)

  -- the byte behind the first n
  pub num-byte : (n rest : ℕ) → length bs ≡ suc n + rest → get_or bs n 0 ≡ num bs / 256 ^ rest % 256
  num-byte n rest q =
      sym (digits_mod 256 (num (take n bs)) (get_or bs n 0) (byte_at bs v n))
      ∙ ap (λ (x : ℕ). x % 256) (sym (num-suc bs n (omega arith)) ∙ num-take (suc n) rest q)

  -- the m bytes behind the first n
  pub num-part : (n m rest : ℕ) → length bs ≡ n + m + rest → num (take m (drop n bs)) ≡ num bs / 256 ^ rest % 256 ^ m
  num-part n m rest q =
      let size : length (take m (drop n bs)) ≡ m = simp (length-take, length-drop) (omega arith) in
      let low = num-fits m (take m (drop n bs)) (take-bytes m (drop n bs) (drop-bytes n bs v)) size in
      sym (digits_mod (256 ^ m) (num (take n bs)) (num (take m (drop n bs))) low)
      ∙ ap (λ (x : ℕ). x % 256 ^ m) (sym (num-more bs n m (omega arith)) ∙ num-take (n + m) rest q)
