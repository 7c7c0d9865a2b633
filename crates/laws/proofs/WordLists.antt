-- The words that bytes are read as: how many they are, the one at a place, the first few, and those after the first few.
use Prim.Native.Nat.{ℕ, zero, suc, ◌+◌, ◌*◌, ◌≤◌, ◌<◌}
use native.Mathlib.Omega.{arith}
use native.Mathlib.Nat.{zero-add, suc-add}
use mathlib.Core.Path.{◌≡◌, refl, ap, ◌∙◌}
use mathlib.Core.List.{◌∷◌}
use lib.ListN.{length, take, drop, get_or}
use lib.Seq.{drop-drop}
use Rattle.rules.specs.Words.{Bytes, num, word_at, words}

pub length-words : (n : ℕ) (bs : Bytes) → length (words n bs) ≡ n
unfolding words
length-words zero bs = refl
length-words (suc n) bs = ap suc (length-words n (drop 32 bs))

-- the word at a place begins at that many times 32 bytes
pub words-at : (n k : ℕ) (bs : Bytes) → k < n → get_or (words n bs) k 0 ≡ word_at bs (32 * k)
unfolding words word_at
words-at zero k bs h = absurd (omega arith)
words-at (suc n) zero bs h = refl
words-at (suc n) (suc k) bs h =
    let e : 32 + 32 * k ≡ 32 * suc k = omega arith in
    words-at n k (drop 32 bs) (omega arith)
    ∙ ap (λ (x : Bytes). num (take 32 x)) (drop-drop (32 * k) 32 bs ∙ ap (λ (i : ℕ). drop i bs) e)

pub take_words : (k n : ℕ) (bs : Bytes) → k ≤ n → take k (words n bs) ≡ words k bs
unfolding words
take_words zero n bs h = refl
take_words (suc k) zero bs h = absurd (omega arith)
take_words (suc k) (suc n) bs h = ap (λ ws. num (take 32 bs) ∷ ws) (take_words k n (drop 32 bs) (omega arith))

pub drop-words : (k n : ℕ) (bs : Bytes) → drop k (words (k + n) bs) ≡ words n (drop (32 * k) bs)
unfolding words
drop-words zero n bs = rw zero-add
drop-words (suc k) n bs =
    let e : 32 + 32 * k ≡ 32 * suc k = omega arith in
    ap (λ (i : ℕ). drop (suc k) (words i bs)) (suc-add k n)
    ∙ drop-words k n (drop 32 bs)
    ∙ ap (words n) (drop-drop (32 * k) 32 bs ∙ ap (λ (i : ℕ). drop i bs) e)
