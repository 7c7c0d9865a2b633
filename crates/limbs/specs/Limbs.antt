-- The limbs of a word.
use Rattle.std.specs.Prelude.{ℕ, ◌<◌, ◌≡◌, take, drop}
use Rattle.rules.specs.Words.{Bytes, num}

-- a word's limbs are numbers of four bytes
abbrev pub limb_bytes : ℕ
limb_bytes = 4

abbrev pub limb_base : ℕ
limb_base = 4294967296

-- the limb at an offset
pub record Limb (bs : Bytes) (at x : ℕ) : Type 0 where
  pub is : x ≡ num (take limb_bytes (drop at bs))
  pub fits : x < limb_base

-- and, to be compared, of eight
abbrev pub long_limb_bytes : ℕ
long_limb_bytes = 8

abbrev pub long_limb_base : ℕ
long_limb_base = 18446744073709551616

pub record LongLimb (bs : Bytes) (at x : ℕ) : Type 0 where
  pub is : x ≡ num (take long_limb_bytes (drop at bs))
