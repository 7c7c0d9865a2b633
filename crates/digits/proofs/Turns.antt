-- The loop: after i pairs the first i bytes are theirs, and the test is whether their characters are all digits. What is left of the
-- line from 2i on has the other pairs.
use Rattle.std.proofs.Common.{◌≡◌, ℕ, suc, ◌+◌, ◌*◌, ◌≤◌, ◌<◌, Bool, ◌&&◌, [], ◌∷◌, ◌++◌, Option, is_some, unwrap_or, length, take, drop, get_or, set, sym, ap, ◌∙◌, add-one, append_assoc, append-nil, arith}
use Rattle.std.proofs.Math.Bool.{and-true, and_assoc}
use Rattle.std.proofs.Math.ListN.{length-set, drop_of_length-le}
use Rattle.std.proofs.Math.Seq.{drop-cons, take-suc-set, take_all}
use Rattle.rules.specs.Words.{Bytes}
use Rattle.rules.specs.Program.{greatest_line}
use Rattle.digits.specs.Decoding.{value_of, pairs, all_digits}

pub record Decoded (line to : Bytes) (right : Bool) (i : ℕ) : Type 0 where
  pub even : length line ≡ 2 * length to
  pub short : length line ≤ greatest_line
  pub tested : (right && all_digits (drop (2 * i) line)) ≡ all_digits line
  pub front : take i to ++ pairs (drop (2 * i) line) ≡ pairs line

-- the next two characters and what is after them
two : (line : Bytes) (i : ℕ) → 2 * i + 1 < length line
    → drop (2 * i) line ≡ get_or line (2 * i) 0 ∷ (get_or line (2 * i + 1) 0 ∷ drop (2 * (i + 1)) line)
two line i h =
    let a : 2 * i < length line = omega arith in
    let b : suc (2 * i) < length line = omega arith in
    let e : suc (suc (2 * i)) ≡ 2 * (i + 1) = omega arith in
    drop-cons line (2 * i) 0 a
    ∙ ap (λ (l : Bytes). get_or line (2 * i) 0 ∷ l) (drop-cons line (suc (2 * i)) 0 b)
    ∙ rw (e, add-one (2 * i))

pub decoded-more : {line to : Bytes} {right right' : Bool} {i byte : ℕ} {high low : Option ℕ} → Decoded line to right i → i < length to
    → high ≡ value_of (get_or line (2 * i) 0) → low ≡ value_of (get_or line (2 * i + 1) 0)
    → byte ≡ unwrap_or high 0 * 16 + unwrap_or low 0 → right' ≡ (right && (is_some high && is_some low))
    → Decoded line (set to i byte) right' (i + 1)
unfolding pairs all_digits
decoded-more {line} {to} {right} {right'} {i} {byte} {high} {low} d h p q b r =
    let here = two line i (omega (arith, d.even)) in
    record {
      even = simp length-set d.even;
      short = d.short;
      tested = rw (r, p, q) (and_assoc right _ _ ∙ sym (ap (λ (x : Bytes). right && all_digits x) here) ∙ d.tested);
      front = rw (add-one i, take-suc-set to i byte h, append_assoc, ← add-one i, b, p, q) (sym (ap (λ (x : Bytes). take i to ++ pairs x) here) ∙ d.front);
    }

pub decoded-all : {line to : Bytes} {right : Bool} {i : ℕ} → Decoded line to right i → length to ≤ i → (right ≡ all_digits line) × (to ≡ pairs line)
unfolding pairs all_digits
decoded-all {line} {to} {right} {i} d h =
    let none_left : drop (2 * i) line ≡ [] = drop_of_length-le line (omega (arith, d.even)) in
    let all : take i to ≡ pairs line = sym (append-nil (take i to)) ∙ (rw none_left at d.front) in
    (sym (and-true right) ∙ (rw none_left at d.tested), sym (take_all i to h) ∙ all)
