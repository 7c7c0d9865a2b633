-- The number that bytes stand for, digit by digit: of a list in two parts (proved in the rules), of one byte more, of zeros.
-- Bytes of one length are told apart by their numbers, and ordered by the first part that differs.
use Prim.Native.Nat.{ℕ, zero, suc, ◌+◌, ◌*◌, ◌^◌, ◌≤◌, ◌<◌}
use native.Mathlib.Omega.{arith}
use native.Mathlib.Nat.{add-zero, zero-add, add-suc, suc-add}
use mathlib.Core.Path.{◌≡◌, refl, sym, ap, ap₂, ◌∙◌}
use mathlib.Core.List.{[], ◌∷◌, ◌++◌, append-nil}
use lib.Arith.{digits_lt}
use lib.ListN.{length, take, drop, get_or, replicate, length-take, length-drop, length-replicate, take-append-drop}
use lib.Seq.{take-suc, take-add}
use Rattle.rules.specs.Words.{Bytes, AllBytes, num_after, num, bytes_before, bytes_of, word}
pub use Rattle.rules.proofs.Bytes.{num_after-append, num_after-num, num-append}
use Rattle.laws.proofs.Lists.{every-replicate}
use Rattle.laws.proofs.Numbers.{digits_div, digits_mod}
use Rattle.laws.proofs.Words.{num-fits, drop-bytes}

-- a slice's elements are bytes
pub all-bytes : (bs : Bytes) → ((i : ℕ) → get_or bs i 0 < 256) → AllBytes bs
all-bytes [] h = tt
all-bytes (b ∷ bs) h = (h 0, all-bytes bs (λ i. h (suc i)))

-- one byte more
pub num-suc : (bs : Bytes) (i : ℕ) → i < length bs → num (take (suc i) bs) ≡ num (take i bs) * 256 + get_or bs i 0
unfolding num num_after
num-suc bs i h = rw (take-suc bs i 0, num_after-append)

-- n bytes more
pub num-more : (bs : Bytes) (i n : ℕ) → i + n ≤ length bs → num (take (i + n) bs) ≡ num (take i bs) * 256 ^ n + num (take n (drop i bs))
num-more bs i n h =
    let l : length (take n (drop i bs)) ≡ n = simp (length-take, length-drop) (omega arith) in
    ap num (take-add i n bs)
    ∙ num-append (take i bs) (take n (drop i bs))
    ∙ ap (λ (k : ℕ). num (take i bs) * 256 ^ k + num (take n (drop i bs))) l

-- the bytes of the number that bytes stand for
bytes_before-num : (m a : ℕ) (bs cs : Bytes) → AllBytes bs → bytes_before (m + length bs) (num_after a bs) cs ≡ bytes_before m a (bs ++ cs)
unfolding bytes_before num_after
bytes_before-num m a [] cs v = ap (λ (k : ℕ). bytes_before k a cs) (add-zero m)
bytes_before-num m a (b ∷ bs) cs v =
    let l : b < 256 = v.0 in
    ap (λ (k : ℕ). bytes_before k (num_after (a * 256 + b) bs) cs) (add-suc m (length bs) ∙ sym (suc-add m (length bs)))
    ∙ bytes_before-num (suc m) (a * 256 + b) bs cs v.1
    ∙ ap₂ (λ (x y : ℕ). bytes_before m x (y ∷ bs ++ cs)) (digits_div 256 a b l) (digits_mod 256 a b l)

pub bytes_of-num : (n : ℕ) (bs : Bytes) → length bs ≡ n → AllBytes bs → bytes_of n (num bs) ≡ bs
unfolding bytes_of num bytes_before
bytes_of-num n bs q v =
    ap (λ (k : ℕ). bytes_before k (num_after 0 bs) []) (sym q ∙ sym (zero-add (length bs))) ∙ bytes_before-num 0 0 bs [] v ∙ append-nil bs

pub word-num : (bs : Bytes) → length bs ≡ 32 → AllBytes bs → word (num bs) ≡ bs
unfolding word
word-num bs q v = bytes_of-num 32 bs q v

-- bytes of one length are told apart by their numbers
pub num-injective : (a b : Bytes) → length a ≡ length b → AllBytes a → AllBytes b → num a ≡ num b → a ≡ b
num-injective a b l v w q =
    sym (bytes_of-num (length b) a l v) ∙ ap (bytes_of (length b)) q ∙ bytes_of-num (length b) b refl w

-- zeros, and only zeros, stand for zero
num_after-zeros : (n : ℕ) → num_after 0 (replicate n 0) ≡ 0
unfolding num_after
num_after-zeros zero = refl
num_after-zeros (suc n) = num_after-zeros n

pub num-zeros : (n : ℕ) → num (replicate n 0) ≡ 0
unfolding num
num-zeros n = num_after-zeros n

pub num-zero : (bs : Bytes) → AllBytes bs → num bs ≡ 0 → bs ≡ replicate (length bs) 0
num-zero bs v q =
    num-injective bs (replicate (length bs) 0) (sym (length-replicate (length bs) 0)) v
    (every-replicate (λ b. b < 256) (length bs) 0 (omega arith)) (q ∙ sym (num-zeros (length bs)))

-- where the first bytes are less, the whole is
pub num-front-less : (a b : Bytes) (i : ℕ) → length a ≡ length b → AllBytes a → num (take i a) < num (take i b) → num a < num b
num-front-less a b i l v h =
    let P : ℕ = 256 ^ length (drop i a) in
    let p : length (drop i b) ≡ length (drop i a) = simp length-drop (omega arith) in
    let ea : num a ≡ num (take i a) * P + num (drop i a) = ap num (sym (take-append-drop i a)) ∙ num-append (take i a) (drop i a) in
    let eb : num b ≡ num (take i b) * P + num (drop i b) =
    ap num (sym (take-append-drop i b)) ∙ num-append (take i b) (drop i b) ∙ ap (λ (k : ℕ). num (take i b) * 256 ^ k + num (drop i b)) p in
    let low : num (drop i a) < P = num-fits (length (drop i a)) (drop i a) (drop-bytes i a v) refl in
    let d : num (take i a) * P + num (drop i a) < num (take i b) * P = digits_lt h low in
    omega (arith, ea, eb, d)
