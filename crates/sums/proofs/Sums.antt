-- Two sums of words, compared limb by limb from the end: what is left to compare are the bytes before, with a carry.
use Rattle.std.proofs.Common.{ℕ, ◌+◌, ◌*◌, ◌≤◌, ◌<◌, ◌≡◌, ap, ◌∙◌, arith, leb, take, take_all}
use Rattle.rules.specs.Words.{Bytes, num}
use Rattle.laws.proofs.Tests.{leb-same}
use Rattle.limbs.specs.Limbs.{limb_base, Limb}
use Rattle.sums.specs.Sums.{carry_of}
use Rattle.limbs.proofs.Limbs.{Word, limb-more}

-- a limb of each word, and what they carry to the limbs before them
carried_on : (P Q A N p q a n c : ℕ) → p < limb_base → q < limb_base
    → leb (P * limb_base + p + (Q * limb_base + q) + 2) (A * limb_base + a + (N * limb_base + n) + c)
    ≡ leb (P + Q + 2) (A + N + carry_of p q a n c)
carried_on P Q A N p q a n c hp hq =
    leb-same (P * limb_base + p + (Q * limb_base + q) + 2) (A * limb_base + a + (N * limb_base + n) + c) (P + Q + 2) (A + N + carry_of p q a n c)
    (omega arith) (omega arith)

-- The words p and q against a and n: the limbs from an offset on have come to a carry, two too large.
pub record Sums (p q a n : Bytes) (at carry : ℕ) : Type 0 where
  pub word_p : Word p
  pub word_q : Word q
  pub word_a : Word a
  pub word_n : Word n
  pub within : at ≤ 32
  pub small : carry ≤ 3
  pub left : leb (num p + num q) (num a + num n) ≡ leb (num (take at p) + num (take at q) + 2) (num (take at a) + num (take at n) + carry)

pub sums-all : {p q a n : Bytes} → Word p → Word q → Word a → Word n → Sums p q a n 32 2
sums-all {p} {q} {a} {n} vp vq va vn =
    record {
      word_p = vp;
      word_q = vq;
      word_a = va;
      word_n = vn;
      within = omega arith;
      small = omega arith;
      left =
          rw (all p vp, all q vq, all a va, all n vn)
          (leb-same (num p + num q) (num a + num n) (num p + num q + 2) (num a + num n + 2) (omega arith) (omega arith));
    }
  where
    all : (w : Bytes) → Word w → take 32 w ≡ w
    all w v = take_all 32 w (omega arith)

pub sums-less : {p q a n : Bytes} {at from c x y u v r : ℕ} → Sums p q a n at c → at ≡ from + 4
    → Limb p from x → Limb q from y → Limb a from u → Limb n from v → r ≡ carry_of x y u v c → r ≤ 3 → Sums p q a n from r
sums-less {p} {q} {a} {n} {at} {from} {c} {x} {y} {u} {v} {r} s back lp lq la ln e l =
    record {
      word_p = s.word_p;
      word_q = s.word_q;
      word_a = s.word_a;
      word_n = s.word_n;
      within = omega arith;
      small = l;
      left =
          s.left
          ∙ rw (next s.word_p lp, next s.word_q lq, next s.word_a la, next s.word_n ln, e)
          (carried_on (num (take from p)) (num (take from q)) (num (take from a)) (num (take from n)) x y u v c
          lp.fits lq.fits);
    }
  where
    next : {w : Bytes} {z : ℕ} → Word w → Limb w from z → num (take at w) ≡ num (take from w) * limb_base + z
    next {w} w-is l-is = ap (λ (k : ℕ). num (take k w)) back ∙ limb-more w-is (omega arith) l-is
