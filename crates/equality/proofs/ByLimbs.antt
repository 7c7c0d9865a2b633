-- Byte strings part by part. Two agree where their limbs do; one is zero where all its parts are.
use Rattle.std.proofs.Common.{ℕ, zero, suc, ◌+◌, ◌*◌, ◌-◌, ◌^◌, ◌≤◌, ◌<◌, ◌≡◌, refl, sym, ap, ap₂, ◌∙◌, ◌++◌, Bool, true, false, eqb, arith, length, take, drop, take_all, length-take, length-drop}
use native.Mathlib.Nat.{pow-le-pow_right, mul-pos}
use lib.Dec.{lit<}
use lib.Seq.{take-take, take-add}
use borrow.Author.Tests.{eq-eqb, ne_eqb}
use Rattle.rules.specs.Words.{Bytes, AllBytes, num, num_after}
use Rattle.laws.proofs.Tests.{eqb_same}
use Rattle.laws.proofs.Numerals.{num-more, num-injective}
use Rattle.laws.proofs.Words.{take-bytes, drop-bytes}
use Rattle.limbs.specs.Limbs.{LongLimb}

-- Two byte strings of one length, whose last limb is at `last`, agree before an offset.
pub record Agree (a b : Bytes) (last at : ℕ) : Type 0 where
  pub bytes_a : AllBytes a
  pub bytes_b : AllBytes b
  pub size : length b ≡ length a
  pub whole : last + 8 ≡ length a
  pub so_far : take at a ≡ take at b

pub agree-none : {a b : Bytes} {last : ℕ} → AllBytes a → AllBytes b → length b ≡ length a → last + 8 ≡ length a → Agree a b last 0
agree-none va vb l w = record { bytes_a = va; bytes_b = vb; size = l; whole = w; so_far = refl }

module _ {a b : Bytes} {last at : ℕ} (s : Agree a b last at) where
  -- the limbs at an offset, x of the one and y of the other
  module _ {i x y : ℕ} (h : i + 8 ≤ length a) (p : LongLimb a i x) (q : LongLimb b i y) where
    one-limb : x ≡ y → take 8 (drop i a) ≡ take 8 (drop i b)
    one-limb e =
        num-injective (take 8 (drop i a)) (take 8 (drop i b))
        (simp (length-take, length-drop) (omega (arith, s.size)))
        (take-bytes 8 (drop i a) (drop-bytes i a s.bytes_a))
        (take-bytes 8 (drop i b) (drop-bytes i b s.bytes_b))
        (sym p.is ∙ e ∙ q.is)

    same-limb : num a ≡ num b → x ≡ y
    same-limb e =
        let one : a ≡ b = num-injective a b (sym s.size) s.bytes_a s.bytes_b e in
        p.is ∙ ap (λ (bs : Bytes). num (take 8 (drop i bs))) one ∙ sym q.is

    pub limbs-differ : (x ≡ y → ⊥) → false ≡ eqb (num a) (num b)
    limbs-differ d = sym (ne_eqb (num a) (num b) (λ e. d (same-limb e)))

  pub agree-more : {next x y : ℕ} → next ≡ at + 8 → at < last → LongLimb a at x → LongLimb b at y → x ≡ y → Agree a b last next
  agree-more n h p q e =
      record {
        bytes_a = s.bytes_a;
        bytes_b = s.bytes_b;
        size = s.size;
        whole = s.whole;
        so_far = rw n (take-add at 8 a ∙ ap₂ ◌++◌ s.so_far (one-limb (omega (arith, s.whole)) p q e) ∙ sym (take-add at 8 b));
      }

  pub agree-all : {x y : ℕ} → last ≤ at → LongLimb a last x → LongLimb b last y → eqb x y ≡ eqb (num a) (num b)
  agree-all {x} {y} h p q = eqb_same x y (num a) (num b) (λ e. ap num (all e)) (same-limb (omega (arith, s.whole)) p q)
    where
      front : take last a ≡ take last b
      front = sym (take-take last at a h) ∙ ap (take last) s.so_far ∙ take-take last at b h

      all : x ≡ y → a ≡ b
      all e =
          sym (take_all (last + 8) a (omega (arith, s.whole)))
          ∙ take-add last 8 a
          ∙ ap₂ ◌++◌ front (one-limb (omega (arith, s.whole)) p q e)
          ∙ sym (take-add last 8 b)
          ∙ take_all (last + 8) b (omega (arith, s.whole, s.size))

-- where bytes stand for zero, their first bytes do
pub front-zero : (bs : Bytes) (i n : ℕ) → i + n ≤ length bs → num (take (i + n) bs) ≡ 0 → num (take i bs) ≡ 0
front-zero bs i n h z = go (num (take i bs)) refl
  where
    go : (x : ℕ) → num (take i bs) ≡ x → num (take i bs) ≡ 0
    go zero e = e
    go (suc x) e =
        let least : 0 ≤ n = omega arith in
        let some : 1 ≤ 256 ^ n = pow-le-pow_right (lit< tt) least in
        let front : 1 ≤ num (take i bs) * 256 ^ n = mul-pos (omega (arith, e)) some in
        absurd (omega (arith, z, front, num-more bs i n h))

-- and each part of them does
pub part-zero : (bs : Bytes) (i n : ℕ) → i + n ≤ length bs → num bs ≡ 0 → num (take n (drop i bs)) ≡ 0
part-zero bs i n h z =
    let whole : i + n + (length bs - (i + n)) ≡ length bs = omega arith in
    let all : num (take (length bs) bs) ≡ 0 = ap num (take_all (length bs) bs (omega arith)) ∙ z in
    let front : num (take (i + n) bs) ≡ 0 = front-zero bs (i + n) (length bs - (i + n)) (omega arith) (rw whole all) in
    omega (arith, front, num-more bs i n h)

-- The bytes before an offset are zero.
pub record Zeros (bs : Bytes) (at : ℕ) : Type 0 where
  pub within : at ≤ length bs
  pub so_far : num (take at bs) ≡ 0

pub zeros-none : (bs : Bytes) → Zeros bs 0
unfolding num num_after
zeros-none bs = record { within = omega arith; so_far = refl }

pub zeros-more : {bs : Bytes} {at next : ℕ} (n : ℕ) → Zeros bs at → next ≡ at + n → next ≤ length bs → num (take n (drop at bs)) ≡ 0 → Zeros bs next
zeros-more {bs} {at} {next} n s e h z =
    record {
      within = h;
      so_far = rw e (num-more bs at n (omega arith) ∙ rw (s.so_far, z) (omega arith));
    }

-- the rest of them decides
pub zeros-rest : {bs : Bytes} {at : ℕ} {r : Bool} → Zeros bs at → r ≡ eqb (num (drop at bs)) 0 → r ≡ eqb (num bs) 0
zeros-rest {bs} {at} s e =
    let n : ℕ = length bs - at in
    let rest : take n (drop at bs) ≡ drop at bs = take_all n (drop at bs) (simp length-drop (omega arith)) in
    let whole : at + n ≡ length bs = omega (arith, s.within) in
    let split : num bs ≡ num (take n (drop at bs)) =
    ap num (sym (take_all (at + n) bs (omega arith))) ∙ num-more bs at n (omega arith) ∙ rw s.so_far (omega arith) in
    e ∙ ap (λ (x : ℕ). eqb x 0) (ap num (sym rest) ∙ sym split)

-- the last limb is zero too
pub zeros-all : {bs : Bytes} {at last : ℕ} → Zeros bs at → last + 8 ≡ length bs → last ≤ at → num (take 8 (drop last bs)) ≡ 0 → true ≡ eqb (num bs) 0
zeros-all {bs} {at} {last} s w h z =
    let whole : last + (at - last) ≡ at = omega arith in
    let front : num (take last bs) ≡ 0 = front-zero bs last (at - last) (omega (arith, s.within)) (rw whole s.so_far) in
    let split : num bs ≡ 0 = ap num (sym (take_all (last + 8) bs (omega arith))) ∙ num-more bs last 8 (omega arith) ∙ rw (front, z) refl in
    sym (eq-eqb (num bs) 0 split)

pub part-not-zero : (bs : Bytes) (i n : ℕ) → i + n ≤ length bs → (num (take n (drop i bs)) ≡ 0 → ⊥) → false ≡ eqb (num bs) 0
part-not-zero bs i n h d = sym (ne_eqb (num bs) 0 (λ e. d (part-zero bs i n h e)))

pub limb-not-zero : {bs : Bytes} {i x : ℕ} → LongLimb bs i x → i + 8 ≤ length bs → (x ≡ 0 → ⊥) → false ≡ eqb (num bs) 0
limb-not-zero {bs} {i} {x} l h d = part-not-zero bs i 8 h (λ z. d (l.is ∙ z))

pub rest-not-zero : (bs : Bytes) (at : ℕ) → at ≤ length bs → (num (drop at bs) ≡ 0 → ⊥) → false ≡ eqb (num bs) 0
rest-not-zero bs at h d =
    let n : ℕ = length bs - at in
    let rest : take n (drop at bs) ≡ drop at bs = take_all n (drop at bs) (simp length-drop (omega arith)) in
    part-not-zero bs at n (omega arith) (λ z. d (ap num (sym rest) ∙ z))
