-- A line of pairs is a message exactly where no character is other than a digit, and the message is then the bytes of the pairs.
-- The three lines that `decode` tells apart: too long, odd, and pairs.
use Rattle.std.proofs.Common.{◌≡◌, ℕ, ◌+◌, ◌*◌, ◌/◌, ◌%◌, ◌-◌, ◌≤◌, ◌<◌, Bool, true, false, ◌&&◌, [], is_some, unwrap_or, ◌∷◌, ◌++◌, length, drop, Option, None, refl, sym, ap, ◌∙◌, arith}
use Rattle.std.proofs.Math.Option.{Option as Maybe, none, some}
use Rattle.std.specs.Bool.{then_some}
use Rattle.std.proofs.Math.Seq.{take-append_seam}
use Rattle.rules.specs.Words.{Bytes}
use Rattle.rules.specs.Program.{digit_of, byte_before, digits, greatest_line, message_of}
use Rattle.digits.specs.Decoding.{value_of, pairs, all_digits, said, filled, Decodes}
use Rattle.digits.proofs.Values.{digit_value, other-value}

-- the message that pairs have, where all characters are digits
abbrev of_pairs : (right : Bool) → Bytes → Maybe Bytes
of_pairs right bs = elim right [ true ↦ some bs | false ↦ none ]

-- one pair more: a character that is no digit, or the byte of two digits before what follows
module _ (h l : ℕ) (right : Bool) (rest : Bytes) where
  one_more : (p q : Maybe ℕ) → digit_of h ≡ p → digit_of l ≡ q
      → byte_before p q (of_pairs right rest)
      ≡ of_pairs (is_some (value_of h) && is_some (value_of l) && right) ((unwrap_or (value_of h) 0 * 16 + unwrap_or (value_of l) 0) ∷ rest)
  unfolding byte_before
  one_more none q e f = let v = other-value h e in grind arith
  one_more (some a) none e f = let v = digit_value h a e in let w = other-value l f in grind arith
  one_more (some a) (some b) e f =
      let v = digit_value h a e in
      let w = digit_value l b f in
      grind arith

digits-of-pairs : (line : Bytes) (n : ℕ) → length line ≡ 2 * n → digits line ≡ of_pairs (all_digits line) (pairs line)
unfolding digits pairs all_digits
digits-of-pairs [] n e = refl
digits-of-pairs (h ∷ []) n e = absurd (omega arith)
digits-of-pairs (h ∷ l ∷ rest) n e =
    ap (byte_before (digit_of h) (digit_of l)) (digits-of-pairs rest (n - 1) (omega arith))
    ∙ one_more h l (all_digits rest) (pairs rest) (digit_of h) (digit_of l) refl refl

digits-odd : (line : Bytes) (n : ℕ) → length line ≡ 2 * n + 1 → digits line ≡ none
unfolding digits byte_before
digits-odd [] n e = absurd (omega arith)
digits-odd (h ∷ []) n e = refl
digits-odd (h ∷ l ∷ rest) n e = let more = digits-odd rest (n - 1) (omega arith) in grind arith

pairs-length : (line : Bytes) (n : ℕ) → length line ≡ 2 * n → length (pairs line) ≡ n
unfolding pairs
pairs-length [] n e = omega arith
pairs-length (h ∷ []) n e = absurd (omega arith)
pairs-length (h ∷ l ∷ rest) n e = let more = pairs-length rest (n - 1) (omega arith) in omega arith

-- what is said of pairs, and which message they have
pairs-said : (right : Bool) (bs : Bytes) → said (of_pairs right bs) ≡ then_some right (length bs)
unfolding said
pairs-said right bs = grind arith

pairs-some : (right : Bool) (bs m : Bytes) → of_pairs right bs ≡ some m → bs ≡ m
pairs-some right bs m e = grind arith

-- a line that is too long, one of an odd number of characters
module _ (line bs : Bytes) where
  pub too_long : greatest_line < length line → Decodes line bs None bs
  unfolding message_of filled said
  too_long h =
      let none_is : message_of line ≡ none = grind arith in
      record { told = rw none_is; message = λ m q. cc; buffer = grind arith }

  pub odd : length line ≤ greatest_line → (length line % 2 ≡ 0 → ⊥) → Decodes line bs None bs
  unfolding message_of filled said
  odd h n =
      let u = digits-odd line (length line / 2) (omega arith) in
      let none_is : message_of line ≡ none = grind arith in
      record { told = rw none_is; message = λ m q. cc; buffer = grind arith }

-- a line of pairs
module _ (line bs : Bytes) (short : length line ≤ greatest_line) (even : length line % 2 ≡ 0) where
  message-is : message_of line ≡ of_pairs (all_digits line) (pairs line)
  unfolding message_of
  message-is = let e = digits-of-pairs line (length line / 2) (omega arith) in grind arith

  filled_is : pairs line ++ drop (length line / 2) bs ≡ filled line bs
  unfolding filled
  filled_is = grind arith

  pub all_pairs : {right : Bool} {bytes : Bytes} {r : Option ℕ} → right ≡ all_digits line → bytes ≡ pairs line
      → r ≡ then_some right (length line / 2) → Decodes line bs r (bytes ++ drop (length line / 2) bs)
  all_pairs {right} {bytes} {r} w b e =
      let long : length (pairs line) ≡ length line / 2 = pairs-length line (length line / 2) (omega arith) in
      let is : said (message_of line) ≡ then_some (all_digits line) (length line / 2) =
      ap said message-is ∙ pairs-said (all_digits line) (pairs line) ∙ ap (then_some (all_digits line)) long in
      rw b
      (record {
        told = e ∙ ap (λ x. then_some x (length line / 2)) w ∙ sym is;
        message = λ m q. (let p = pairs-some (all_digits line) (pairs line) m (sym message-is ∙ q) in rw (← p) (take-append_seam (pairs line) (drop (length line / 2) bs)));
        buffer = filled_is;
      })
