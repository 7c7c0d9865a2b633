-- A word by its limbs of four and of eight bytes: the number of a limb, and of the bytes up to one limb more.
use Rattle.std.proofs.Common.{ℕ, ◌+◌, ◌*◌, ◌≤◌, ◌<◌, ◌≡◌, refl, ap, arith, length, take, get_or, take_all}
use Rattle.std.specs.Int.{w32, w64, from_be_bytes}
use Rattle.rules.specs.Words.{Bytes, AllBytes, num, num_after}
use Rattle.laws.proofs.Numerals.{all-bytes, num-suc, num-more}
use Rattle.limbs.specs.Limbs.{limb_base, long_limb_base, Limb, LongLimb}

-- 32 bytes
pub record Word (bs : Bytes) : Type 0 where
  pub size : length bs ≡ 32
  pub bytes : AllBytes bs

pub a_word : {bs : Bytes} → length bs ≡ 32 → ((k : ℕ) → get_or bs k 0 < 256) → Word bs
a_word {bs} l byte = record { size = l; bytes = all-bytes bs byte }

-- the library's number of four and of eight bytes, most significant first, is `num` of them
pub four-bytes : (bs : Bytes) → length bs ≡ 4 → from_be_bytes w32 bs ≡ num bs
unfolding num num_after
four-bytes bs h =
    let none : num (take 0 bs) ≡ 0 = refl in
    let all : num (take 4 bs) ≡ num bs = ap num (take_all 4 bs (omega arith)) in
    omega (arith, none, all, num-suc bs 0 (omega arith), num-suc bs 1 (omega arith), num-suc bs 2 (omega arith), num-suc bs 3 (omega arith))

pub eight-bytes : (bs : Bytes) → length bs ≡ 8 → from_be_bytes w64 bs ≡ num bs
unfolding num num_after
eight-bytes bs h =
    let none : num (take 0 bs) ≡ 0 = refl in
    let all : num (take 8 bs) ≡ num bs = ap num (take_all 8 bs (omega arith)) in
    omega (
      arith,
      none,
      all,
      num-suc bs 0 (omega arith),
      num-suc bs 1 (omega arith),
      num-suc bs 2 (omega arith),
      num-suc bs 3 (omega arith),
      num-suc bs 4 (omega arith),
      num-suc bs 5 (omega arith),
      num-suc bs 6 (omega arith),
      num-suc bs 7 (omega arith),
    )

-- one limb more
pub limb-more : {w : Bytes} {at x : ℕ} → Word w → at + 4 ≤ 32 → Limb w at x → num (take (at + 4) w) ≡ num (take at w) * limb_base + x
limb-more {w} {at} {x} v h l = rw l.is (num-more w at 4 (omega arith))

pub long-limb-more : {bs : Bytes} {at x : ℕ} → at + 8 ≤ length bs → LongLimb bs at x → num (take (at + 8) bs) ≡ num (take at bs) * long_limb_base + x
long-limb-more {bs} {at} {x} h l = rw l.is (num-more bs at 8 h)
