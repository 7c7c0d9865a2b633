-- Parts of bytes: the rest from an offset on, and a word in two parts, its leading bytes and the others. As a number a word is
-- `high * 256 ^ others + low`: leading bytes that are not zero make it too large for the others, and division leaves its first byte.
use Prim.Native.Nat.{ℕ, zero, suc, ◌+◌, ◌*◌, ◌^◌, ◌-◌, ◌≤◌, ◌<◌}
use native.Mathlib.Omega.{arith}
use native.Mathlib.Nat.{suc-mul}
use mathlib.Core.Path.{◌≡◌, refl, sym, ap, ◌∙◌, subst}
use mathlib.Core.Bool.{false, not}
use lib.Dec.{eqb, leb}
use lib.ListN.{length, take, drop, get_or, length-take, length-drop}
use lib.Seq.{take_all, drop-cons, drop-drop}
use borrow.Author.Tests.{le-leb, lt-leb, leb-false, ne_eqb}
use Rattle.std.proofs.Common.{Option, Some, None, Bor, ⊎_elim, []}
use Rattle.std.proofs.Math.ListN.{drop_of_length-le}
use Rattle.std.proofs.lemmas.Grind.{common_steps}
use Rattle.std.specs.Option.{UnwrapsOrElse}
use Rattle.std.specs.Slice.{IsGetRangeResult}
use Rattle.rules.specs.Words.{Bytes, AllBytes, num_after, num, word_at}
use Rattle.laws.proofs.Words.{num-fits, take-bytes, drop-bytes}
use Rattle.laws.proofs.Numerals.{num-more}

-- the rest from an offset on, as a part of a slice arrives
pub rest_part : (n : ℕ) (bs : Bytes) → take (length bs - n) (drop n bs) ≡ drop n bs
rest_part n bs = take_all (length bs - n) (drop n bs) (simp length-drop (omega arith))

-- where `get` gives no bytes from the n-th on, there are none
pub rest-none : (xs : Bytes) (n : ℕ) → IsGetRangeResult xs n (length xs) None → drop n xs ≡ []
rest-none xs n p = drop_of_length-le xs (⊎_elim (λ h. omega arith) (λ h. omega arith) p.0)

-- the bytes from the n-th on, as `get` gives them, or none where there are fewer
pub rest-or-none : (xs : Bytes) (n : ℕ) (r : Option (Bor Bytes)) (rest : Bor Bytes) → IsGetRangeResult xs n (length xs) r
    → UnwrapsOrElse r (λ x. x.now ≡ []) rest → rest.now ≡ drop n xs
rest-or-none xs n None rest p d = d ∙ sym (rest-none xs n p)
rest-or-none xs n (Some part) rest p d = grind (arith, common_steps)

-- one byte
pub num-one : (bs : Bytes) (at : ℕ) → at < length bs → num (take 1 (drop at bs)) ≡ get_or bs at 0
unfolding num num_after
num-one bs at h = rw (drop-cons bs at 0 h) (omega arith)

-- a word's first a bytes and its other b
pub word-parts : (bs : Bytes) (at a b : ℕ) → a + b ≡ 32 → at + 32 ≤ length bs
    → word_at bs at ≡ num (take a (drop at bs)) * 256 ^ b + num (take b (drop (at + a) bs))
unfolding word_at
word-parts bs at a b e h =
    ap (λ (n : ℕ). num (take n (drop at bs))) (sym e)
    ∙ num-more (drop at bs) a b (simp length-drop (omega arith))
    ∙ ap (λ (x : Bytes). num (take a (drop at bs)) * 256 ^ b + num (take b x)) (drop-drop a at bs)

low_fits : (bs : Bytes) (at n : ℕ) → AllBytes bs → at + n ≤ length bs → num (take n (drop at bs)) < 256 ^ n
low_fits bs at n v h =
    num-fits n (take n (drop at bs)) (take-bytes n (drop at bs) (drop-bytes at bs v)) (simp (length-take, length-drop) (omega arith))

not-below : (H P L : ℕ) → L < P → leb P (H * P + L) ≡ not (eqb H 0)
not-below zero P L h = lt-leb P (0 * P + L) (omega arith)
not-below (suc H) P L h = le-leb P (suc H * P + L) (rw suc-mul (omega arith)) ∙ sym (ap not (ne_eqb (suc H) 0 (λ e. omega arith)))

-- a word is too large for its last b bytes exactly if one of its first a is not zero
pub leads : (bs : Bytes) (at a b : ℕ) → a + b ≡ 32 → AllBytes bs → at + 32 ≤ length bs
    → leb (256 ^ b) (word_at bs at) ≡ not (eqb (num (take a (drop at bs))) 0)
leads bs at a b e v h =
    ap (leb (256 ^ b)) (word-parts bs at a b e h)
    ∙ not-below (num (take a (drop at bs))) (256 ^ b) (num (take b (drop (at + a) bs))) (low_fits bs (at + a) b v (omega arith))

below : (H P L : ℕ) → H * P + L < P → H * P + L ≡ L
below zero P L h = omega arith
below (suc H) P L h = absurd (omega (arith, suc-mul H P))

-- if it is not, the last b are the whole number
pub no-leads : (bs : Bytes) (at a b : ℕ) → a + b ≡ 32 → at + 32 ≤ length bs → leb (256 ^ b) (word_at bs at) ≡ false
    → num (take b (drop (at + a) bs)) ≡ word_at bs at
no-leads bs at a b e h q =
    let parts = word-parts bs at a b e h in
    let small = subst (λ (x : ℕ). x < 256 ^ b) parts (leb-false (256 ^ b) (word_at bs at) q) in
    sym (parts ∙ below (num (take a (drop at bs))) (256 ^ b) (num (take b (drop (at + a) bs))) small)

-- the last byte
pub last_byte : (bs : Bytes) (at : ℕ) → at + 32 ≤ length bs
    → word_at bs at ≡ num (take 31 (drop at bs)) * 256 + get_or bs (at + 31) 0
last_byte bs at h =
    word-parts bs at 31 1 refl h ∙ ap (λ (x : ℕ). num (take 31 (drop at bs)) * 256 + x) (num-one bs (at + 31) (omega arith))
