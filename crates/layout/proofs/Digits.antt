-- A number is written from its last digit to its first: the digits that are left, before the bytes that are written,
-- are always the bytes of the number.
use Rattle.std.proofs.Common.{ℕ, suc, ◌/◌, ◌%◌, ◌+◌, ◌-◌, ◌≤◌, ◌<◌, arith, refl, ap, ◌∙◌, length-set, ◌≡◌, length, drop, set}
use lib.Seq.{drop-length}
use Rattle.std.proofs.lemmas.List.{drop-set}
use Rattle.rules.specs.Words.{Bytes, bytes_before, bytes_of}

pub record Written (n size : ℕ) (to : Bytes) (left i : ℕ) : Type 0 where
  pub sized : length to ≡ size
  pub within : i ≤ size
  pub digits : bytes_before i left (drop i to) ≡ bytes_of size n

pub written_none : (to : Bytes) (n : ℕ) → Written n (length to) to n (length to)
unfolding bytes_of
written_none to n = record { sized = refl; within = omega arith; digits = rw drop-length }

pub written-more : {n size : ℕ} {to : Bytes} {left i : ℕ} → Written n size to left i → 0 < i
    → Written n size (set to (i - 1) (left % 256)) (left / 256) (i - 1)
unfolding bytes_before
written-more {n} {size} {to} {left} {i} w h =
    let one : suc (i - 1) ≡ i = omega arith in
    let again : i - 1 + 1 ≡ i = omega arith in
    let digits : bytes_before (suc (i - 1)) left (drop (i - 1 + 1) to) ≡ bytes_of size n = rw (one, again) w.digits in
    record {
      sized = simp length-set w.sized;
      within = omega (arith, w.within);
      digits = ap (bytes_before (i - 1) (left / 256)) (drop-set to (i - 1) (left % 256) (omega (arith, w.within, w.sized))) ∙ digits;
    }

pub written_all : {n size : ℕ} {to : Bytes} {left i : ℕ} → Written n size to left i → i ≤ 0 → to ≡ bytes_of size n
unfolding bytes_before
written_all {n} {size} {to} {left} {i} w h =
    let none : i ≡ 0 = omega arith in
    rw none at w.digits
