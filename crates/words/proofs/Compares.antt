-- The order of two words, limb by limb: where all before agree, the first limbs that differ decide.
use Rattle.std.proofs.Common.{ℕ, ◌+◌, ◌*◌, ◌≤◌, ◌<◌, ◌≡◌, refl, arith, ltb, take}
use borrow.Author.Tests.{lt-ltb, le-ltb}
use Rattle.rules.specs.Words.{Bytes, num}
use Rattle.laws.proofs.Numbers.{Order, less, equal, more, order}
use Rattle.laws.proofs.Numerals.{num-front-less}
use Rattle.limbs.specs.Limbs.{long_limb_base, LongLimb}
use Rattle.limbs.proofs.Limbs.{Word, long-limb-more}

-- Two words agree before an offset.
pub record Agree (a b : Bytes) (at : ℕ) : Type 0 where
  pub word_a : Word a
  pub word_b : Word b
  pub within : at ≤ 32
  pub so_far : num (take at a) ≡ num (take at b)

pub agree-none : {a b : Bytes} → Word a → Word b → Agree a b 0
agree-none va vb = record { word_a = va; word_b = vb; within = omega arith; so_far = refl }

-- the limbs there, x of the one and y of the other
module _ {a b : Bytes} {at : ℕ} (s : Agree a b at) (h : at + 8 ≤ 32) {x y : ℕ} (p : LongLimb a at x) (q : LongLimb b at y) where
  next_a : num (take (at + 8) a) ≡ num (take at a) * long_limb_base + x
  next_a = long-limb-more (omega arith) p

  next_b : num (take (at + 8) b) ≡ num (take at b) * long_limb_base + y
  next_b = long-limb-more (omega arith) q

  pub agree-more : {next : ℕ} → next ≡ at + 8 → x ≡ y → Agree a b next
  agree-more n e =
      record {
        word_a = s.word_a;
        word_b = s.word_b;
        within = omega arith;
        so_far = rw n (omega (arith, next_a, next_b));
      }

  pub first-differs : (x ≡ y → ⊥) → ltb x y ≡ ltb (num a) (num b)
  first-differs d = go (order x y)
    where
      go : Order x y → ltb x y ≡ ltb (num a) (num b)
      go (less l) =
          let whole = num-front-less a b (at + 8) (omega arith) s.word_a.bytes (omega (arith, next_a, next_b)) in
          rw (lt-ltb x y l, lt-ltb (num a) (num b) whole)
      go (equal e) = absurd (d e)
      go (more l) =
          let whole : num b < num a = num-front-less b a (at + 8) (omega arith) s.word_b.bytes (omega (arith, next_a, next_b)) in
          rw (le-ltb x y (omega arith), le-ltb (num a) (num b) (omega arith))
