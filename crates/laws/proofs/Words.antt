-- Bytes and the numbers that they stand for: a word's 32 bytes stand for it, and at most 32 bytes stand for a word.
-- Each law is proved of any number of bytes behind a number read before them, `num_after`, and then used for `num` and `word`.
use Prim.Native.Nat.{ℕ, zero, suc, ◌+◌, ◌*◌, ◌/◌, ◌%◌, ◌^◌, ◌≤◌, ◌<◌}
use native.Mathlib.Omega.{arith}
use native.Mathlib.Nat.{lt_of_lt_of_le, pow-suc, div-lt_iff_lt-mul, pow-le-pow_right}
use mathlib.Core.Path.{◌≡◌, refl, ap, ◌∙◌}
use mathlib.Core.List.{[], ◌∷◌, ◌++◌}
use lib.Dec.{lit<}
use lib.ListN.{length, take, drop, length-take}
use Rattle.rules.specs.Words.{AllBytes, Bytes, num_after, num, bytes_before, bytes_of, word, word_at, words, Every}
pub use Rattle.rules.proofs.Bytes.{num-fits}
use Rattle.laws.proofs.Lists.{every_append, every_take, every_drop}

-- Parts of bytes, and bytes put together.
pub take-bytes : (n : ℕ) (bs : Bytes) → AllBytes bs → AllBytes (take n bs)
take-bytes = every_take (λ b. b < 256)

pub drop-bytes : (n : ℕ) (bs : Bytes) → AllBytes bs → AllBytes (drop n bs)
drop-bytes = every_drop (λ b. b < 256)

pub append-bytes : (a b : Bytes) → AllBytes a → AllBytes b → AllBytes (a ++ b)
append-bytes = every_append (λ b. b < 256)

pub take_short : (n : ℕ) (bs : Bytes) → length (take n bs) ≤ n
take_short n bs = omega (arith, length-take n bs)

-- The bytes of a number: how many there are, that each is a byte, and that they stand for the number if it fits them.
pub length-bytes_before : (n x : ℕ) (bs : Bytes) → length (bytes_before n x bs) ≡ n + length bs
unfolding bytes_before
length-bytes_before zero x bs = omega arith
length-bytes_before (suc n) x bs = omega (arith, length-bytes_before n (x / 256) (x % 256 ∷ bs))

pub length-word : (x : ℕ) → length (word x) ≡ 32
unfolding word bytes_of
length-word x = length-bytes_before 32 x []

bytes_before-are-bytes : (n x : ℕ) (bs : Bytes) → AllBytes bs → AllBytes (bytes_before n x bs)
unfolding bytes_before
bytes_before-are-bytes zero x bs v = v
bytes_before-are-bytes (suc n) x bs v = bytes_before-are-bytes n (x / 256) (x % 256 ∷ bs) (omega arith, v)

pub word-is-bytes : (x : ℕ) → AllBytes (word x)
unfolding word bytes_of
word-is-bytes x = bytes_before-are-bytes 32 x [] tt

pub num_after-bytes : (n x a : ℕ) (bs : Bytes) → x < 256 ^ n → num_after a (bytes_before n x bs) ≡ num_after (a * 256 ^ n + x) bs
unfolding bytes_before num_after
num_after-bytes zero x a bs h = ap (λ (y : ℕ). num_after y bs) (omega arith)
num_after-bytes (suc n) x a bs h =
    let high : x / 256 < 256 ^ n = (div-lt_iff_lt-mul (lit< tt)).1 (rw pow-suc at h) in
    num_after-bytes n (x / 256) a (x % 256 ∷ bs) high ∙ ap (λ (y : ℕ). num_after y bs) (rw (pow-suc 256 n) (one_more (256 ^ n)))
  where
    one_more : (y : ℕ) → (a * y + x / 256) * 256 + x % 256 ≡ a * (y * 256) + x
    one_more y = omega arith

pub num-word : (x : ℕ) → x < 2 ^ 256 → num (word x) ≡ x
unfolding num word bytes_of num_after
num-word x h = num_after-bytes 32 x 0 [] h ∙ none_before (256 ^ 32)
  where
    none_before : (y : ℕ) → 0 * y + x ≡ x
    none_before y = omega arith

-- The number that at most 32 bytes stand for is a word.
pub num-bound : (bs : Bytes) → AllBytes bs → length bs ≤ 32 → num bs < 2 ^ 256
num-bound bs v h = lt_of_lt_of_le (num-fits (length bs) bs v refl) (pow-le-pow_right (lit< tt) h)

-- words that are read from bytes
pub first-word-bound : (bs : Bytes) → AllBytes bs → num (take 32 bs) < 2 ^ 256
first-word-bound bs v = num-bound (take 32 bs) (take-bytes 32 bs v) (take_short 32 bs)

pub word_at-bound : (bs : Bytes) (at : ℕ) → AllBytes bs → word_at bs at < 2 ^ 256
unfolding word_at
word_at-bound bs at v = first-word-bound (drop at bs) (drop-bytes at bs v)

pub words-bound : (n : ℕ) (bs : Bytes) → AllBytes bs → Every (λ w. w < 2 ^ 256) (words n bs)
unfolding words
words-bound zero bs v = tt
words-bound (suc n) bs v = (first-word-bound bs v, words-bound n (drop 32 bs) (drop-bytes 32 bs v))
