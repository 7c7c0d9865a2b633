-- The bytes of a number, and bytes behind as many zeros as a word has before them, stand for the number and for the bytes' own.
use Rattle.std.proofs.Common.{ℕ, zero, suc, ◌+◌, ◌^◌, ◌-◌, ◌≤◌, ◌<◌, arith, lt_of_lt_of_le, refl, ap, ◌∙◌, append-nil, lit≤}
use Rattle.std.proofs.Common.{length-append, drop-drop, ◌≡◌, [], ◌∷◌, length, take, replicate}
use lib.ListN.{length-replicate}
use borrow.Rule.Slice.PartMut.{put_mid, post_of}
use Rattle.rules.specs.Words.{Bytes, num_after, num, bytes_of, word}
use Rattle.laws.proofs.Words.{length-word, num-word}
use Rattle.laws.proofs.Numerals.{num_after-append, num-zeros}
use Rattle.words.specs.Words.{Holds}

pub number-held : (n : ℕ) (bs : Bytes) → bs ≡ bytes_of 32 n → n < 256 ^ 8 → Holds 32 bs n
unfolding word
number-held n bs written h =
    record { size = ap length written ∙ length-word n; number = ap num written ∙ num-word n (lt_of_lt_of_le h (lit≤ tt)) }

take-zeros : (n m : ℕ) → n ≤ m → take {A = ℕ} n (replicate m 0) ≡ replicate n 0
take-zeros zero m h = refl
take-zeros (suc n) zero h = absurd (omega arith)
take-zeros (suc n) (suc m) h = ap (λ (bs : Bytes). 0 ∷ bs) (take-zeros n m (omega arith))

pub right-held : (bs ys : Bytes) → length bs ≤ 32 → ys ≡ bs → Holds 32 (put_mid (32 - length bs) (32 - (32 - length bs)) (replicate 32 0) ys) (num bs)
unfolding num
right-held bs ys h e =
    let all : 32 - length bs + (32 - (32 - length bs)) ≡ 32 = omega arith in
    let none : post_of {X = ℕ} (32 - length bs) (32 - (32 - length bs)) (replicate 32 0) ≡ [] = rw (drop-drop, all) in
    let zeros = take-zeros (32 - length bs) 32 (omega arith) in
    rw (e, none, append-nil bs, zeros) (
    record {
      size = simp (length-append, length-replicate) (omega arith);
      number =
          num_after-append 0 (replicate (32 - length bs) 0) bs
          ∙ ap (λ (n : ℕ). num_after n bs) (num-zeros (32 - length bs));
    })
