-- What `decode` says of a line, and what the buffer holds after.
use Rattle.std.specs.Prelude.{ℕ, ◌+◌, ◌*◌, ◌/◌, ◌%◌, ◌≡◌, [], ◌∷◌, ◌++◌, Bool, true, false, ◌&&◌, eqb, leb, length, take, drop, Option, Some, None, is_some, unwrap_or}
use Rattle.std.proofs.Math.Option.{Option as Maybe, none, some}
use Rattle.rules.specs.Words.{Bytes}
use Rattle.rules.specs.Program.{digit_of, greatest_line, message_of}

-- the value of a digit; none of another character
unfoldable pub value_of : (character : ℕ) → Option ℕ
value_of c = elim (digit_of c) [ none ↦ None | some d ↦ Some d ]

-- the byte of each two characters of a line: one that is no digit counts as 0
unfoldable pub pairs : (line : Bytes) → Bytes
pairs [] = []
pairs (h ∷ []) = []
pairs (h ∷ l ∷ rest) = (unwrap_or (value_of h) 0 * 16 + unwrap_or (value_of l) 0) ∷ pairs rest

-- whether they are all digits
unfoldable pub all_digits : (line : Bytes) → Bool
all_digits [] = true
all_digits (h ∷ []) = true
all_digits (h ∷ l ∷ rest) = is_some (value_of h) && is_some (value_of l) && all_digits rest

-- what is said of a line that has this message, or none: the number of its bytes
unfoldable pub said : Maybe Bytes → Option ℕ
said none = None
said (some m) = Some (length m)

-- The buffer after: a line that is not too long and has an even number of characters is decoded to its front, and the rest is as it was.
unfoldable pub filled : (line before : Bytes) → Bytes
filled line before =
    elim (leb (length line) greatest_line && eqb (length line % 2) 0) [
      | true ↦ pairs line ++ drop (length line / 2) before
      | false ↦ before
    ]

-- The promise: the line's message, if it has one, is at the buffer's front; and every byte of the buffer.
pub record Decodes (line before : Bytes) (r : Option ℕ) (after : Bytes) : Type 0 where
  pub told : r ≡ said (message_of line)
  pub message : (m : Bytes) → message_of line ≡ some m → take (length m) after ≡ m
  pub buffer : after ≡ filled line before
