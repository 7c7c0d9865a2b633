-- What the library says of all bytes, of all blocks and of `==`, as numbers.
use Rattle.std.proofs.Common.{ℕ, zero, suc, ◌+◌, ◌*◌, ◌-◌, ◌/◌, ◌≤◌, ◌<◌, ◌≡◌, refl, sym, ap, ◌∙◌, [], List, Bool, true, false, eqb, arith, length, take, drop, get_or, replicate, reverse, subst, take_all, length-take, length-drop}
use mathlib.Core.Bool.{true≢false}
use lib.Seq.{drop-drop}
use borrow.Author.Tests.{eqb-true, eq-eqb, ne_eqb}
use Rattle.std.specs.Bool.{Decides, MatchBool}
use Rattle.std.specs.List.{AllWithin, HoldsAt}
use Rattle.std.specs.Simd.{first_chunks}
use Rattle.std.specs.Cmp.Lexicographic.{pointwise}
use Rattle.std.proofs.lemmas.Slice.Eq.{bytes_eq-Decides}
use Rattle.std.proofs.lemmas.List.{get_or-reverse, length-reverse}
use Rattle.rules.specs.Words.{Bytes, AllBytes, num, num_after}
use Rattle.laws.proofs.Tests.{same_test}
use Rattle.laws.proofs.Numerals.{num-suc, num-injective, num-zero, num-zeros}
use Rattle.laws.proofs.Words.{take-bytes, drop-bytes}
use Rattle.equality.proofs.ByLimbs.{Zeros, zeros-none, zeros-more, zeros-rest, part-not-zero, front-zero}

-- `==` of two byte strings of one length
pub same-bytes : (a b : Bytes) {r : Bool} → AllBytes a → AllBytes b → length a ≡ length b → r ≡ pointwise eqb a b → r ≡ eqb (num a) (num b)
same-bytes a b {r} va vb l e =
    let d : Decides (pointwise eqb a b) (a ≡ b) = bytes_eq-Decides a b in
    e ∙ same_test (pointwise eqb a b) (eqb (num a) (num b)) (λ t. eq-eqb (num a) (num b) (ap num (d.0 t))) (λ t. d.1 (num-injective a b l va vb (eqb-true (num a) (num b) t)))

-- every byte is zero, or one is not
pub zero-bytes : (bs : Bytes) (r : Bool)
    → MatchBool r (AllWithin (λ x. x ≡ 0) bs 0 (length bs)) ((k : ℕ) × (k < length bs) × HoldsAt (λ x. x ≡ 0 → ⊥) bs k)
    → r ≡ eqb (num bs) 0
unfolding num num_after
zero-bytes bs true all = sym (eq-eqb (num bs) 0 (ap num (sym (take_all (length bs) bs (omega arith))) ∙ so_far (length bs) (omega arith)))
  where
    so_far : (i : ℕ) → i ≤ length bs → num (take i bs) ≡ 0
    so_far zero h = refl
    so_far (suc i) h =
        let before : num (take i bs) ≡ 0 = so_far i (omega arith) in
        let byte : get_or bs i 0 ≡ 0 = all i 0 (omega arith) (omega arith) in
        num-suc bs i (omega arith) ∙ rw (before, byte) refl
zero-bytes bs false (k, h, some) = sym (ne_eqb (num bs) 0 none)
  where
    none : num bs ≡ 0 → ⊥
    none e =
        let whole : suc k + (length bs - suc k) ≡ length bs = omega arith in
        let all : num (take (length bs) bs) ≡ 0 = ap num (take_all (length bs) bs (omega arith)) ∙ e in
        let front : num (take (suc k) bs) ≡ 0 = front-zero bs (suc k) (length bs - suc k) (omega arith) (rw whole all) in
        some 0 (omega (arith, front, num-suc bs k h))

-- the blocks of a byte string, and one of them
abbrev pub blocks : Bytes → List Bytes
blocks bs = first_chunks 64 (length bs / 64) bs

block-at : (k : ℕ) (bs : Bytes) (i : ℕ) (d : Bytes) → i < k → get_or (first_chunks 64 k bs) i d ≡ take 64 (drop (i * 64) bs)
block-at zero bs i d h = absurd (omega arith)
block-at (suc k) bs zero d h = refl
block-at (suc k) bs (suc i) d h =
    let next : 64 + i * 64 ≡ suc i * 64 = omega arith in
    block-at k (drop 64 bs) i d (omega arith) ∙ ap (take 64) (drop-drop (i * 64) 64 bs ∙ ap (λ (n : ℕ). drop n bs) next)

-- a block that is `==` to zeros stands for zero, and only that
blank-zero : (b : Bytes) → pointwise eqb b (replicate 64 0) ≡ true → num b ≡ 0
blank-zero b t = let d : Decides (pointwise eqb b (replicate 64 0)) (b ≡ replicate 64 0) = bytes_eq-Decides b (replicate 64 0) in ap num (d.0 t) ∙ num-zeros 64

blank-not-zero : (b : Bytes) → AllBytes b → length b ≡ 64 → pointwise eqb b (replicate 64 0) ≡ false → num b ≡ 0 → ⊥
blank-not-zero b v l f z =
    let d : Decides (pointwise eqb b (replicate 64 0)) (b ≡ replicate 64 0) = bytes_eq-Decides b (replicate 64 0) in
    let whole : b ≡ replicate 64 0 = num-zero b v z ∙ ap (λ (n : ℕ). replicate n 0) l in
    true≢false (sym (d.1 whole) ∙ f)

length-blocks : (k : ℕ) (bs : Bytes) → length (first_chunks 64 k bs) ≡ k
length-blocks zero bs = refl
length-blocks (suc k) bs = ap suc (length-blocks k (drop 64 bs))

-- what is found of all elements, or of one, from the last to the first is so from the first to the last
from-the-end : {X : Type 0} (P Q : X → Type 0) (xs : List X) (r : Bool)
    → MatchBool r (AllWithin P (reverse xs) 0 (length (reverse xs))) ((k : ℕ) × (k < length (reverse xs)) × HoldsAt Q (reverse xs) k)
    → MatchBool r (AllWithin P xs 0 (length xs)) ((k : ℕ) × (k < length xs) × HoldsAt Q xs k)
from-the-end P Q xs true all = λ i d low high.
    let count : length (reverse xs) ≡ length xs = length-reverse xs in
    let j : ℕ = length xs - 1 - i in
    let back : length xs - 1 - j ≡ i = omega arith in
    subst P (get_or-reverse xs j d (omega arith) ∙ ap (λ (n : ℕ). get_or xs n d) back) (all j d (omega arith) (omega arith))
from-the-end P Q xs false (k, h, some) =
    let count : length (reverse xs) ≡ length xs = length-reverse xs in
    (length xs - 1 - k, omega arith, λ d. subst Q (get_or-reverse xs k d (omega arith)) (some d))

-- every block is `==` to zeros, or one is not: where the bytes behind the blocks are zero, this decides
decided : (bs : Bytes) (r : Bool) → AllBytes bs
    → MatchBool r (AllWithin (λ b. pointwise eqb b (replicate 64 0) ≡ true) (blocks bs) 0 (length (blocks bs)))
    ((k : ℕ) × (k < length (blocks bs)) × HoldsAt (λ b. pointwise eqb b (replicate 64 0) ≡ false) (blocks bs) k)
    → num (drop (length bs / 64 * 64) bs) ≡ 0 → r ≡ eqb (num bs) 0
decided bs true v all rest = zeros-rest (so_far (length bs / 64) (omega arith)) (sym (eq-eqb _ 0 rest))
  where
    so_far : (i : ℕ) → i ≤ length bs / 64 → Zeros bs (i * 64)
    so_far zero h = zeros-none bs
    so_far (suc i) h =
        let count : length (blocks bs) ≡ length bs / 64 = length-blocks (length bs / 64) bs in
        let blank = all i [] (omega arith) (omega arith) in
        zeros-more 64 (so_far i (omega arith)) (omega arith) (omega arith)
        (blank-zero (take 64 (drop (i * 64) bs)) (rw (block-at (length bs / 64) bs i [] (omega arith)) at blank))
decided bs false v (k, h, some) rest =
    let count : length (blocks bs) ≡ length bs / 64 = length-blocks (length bs / 64) bs in
    part-not-zero bs (k * 64) 64 (omega arith)
    (blank-not-zero (take 64 (drop (k * 64) bs)) (take-bytes 64 (drop (k * 64) bs) (drop-bytes (k * 64) bs v))
    (simp (length-take, length-drop) (omega arith))
    (rw (block-at (length bs / 64) bs k [] (omega arith)) at (some [])))

-- the same where the last block is judged first
pub blocks-decide : (bs : Bytes) (r : Bool) → AllBytes bs
    → MatchBool r (AllWithin (λ b. pointwise eqb b (replicate 64 0) ≡ true) (reverse (blocks bs)) 0 (length (reverse (blocks bs))))
    ((k : ℕ) × (k < length (reverse (blocks bs))) × HoldsAt (λ b. pointwise eqb b (replicate 64 0) ≡ false) (reverse (blocks bs)) k)
    → num (drop (length bs / 64 * 64) bs) ≡ 0 → r ≡ eqb (num bs) 0
blocks-decide bs r v m =
    decided bs r v
    (from-the-end (λ b. pointwise eqb b (replicate 64 0) ≡ true) (λ b. pointwise eqb b (replicate 64 0) ≡ false) (blocks bs) r m)
