-- The input in pieces. What is printed for the pieces, in whatever way the input is cut, is what the rules print for the whole of it
-- (`run-prints`).
use Rattle.std.specs.Prelude.{ℕ, zero, suc, ◌+◌, ◌-◌, ◌≤◌, ◌≡◌, List, [], ◌∷◌, ◌++◌, Bool, true, false, not, ◌&&◌, ◌||◌, eqb, leb, ltb, length, take, drop}
use Rattle.std.proofs.Math.Option.{Option, none}
use Rattle.rules.specs.Words.{Bytes}
use Rattle.rules.specs.Program.{line_feed, greatest_line, message_of, program_table}
use Rattle.writing.specs.declared.text.Text.{Text}
use Rattle.writing.specs.Wrote.{room, Wrote}
use Rattle.answering.specs.Answering.{Answered, answer_of, answer_room}
use Rattle.feeding.specs.declared.Fed.{Fed}

-- where a byte stands first; the number of the bytes if it is not among them
unfoldable pub index_after : Bool → ℕ → ℕ
index_after true n = zero
index_after false n = suc n

unfoldable pub index_of : (byte : ℕ) → Bytes → ℕ
index_of byte [] = zero
index_of byte (b ∷ bs) = index_after (eqb b byte) (index_of byte bs)

-- What stands between two lines of a piece: the table, what has been printed, whether the line that begins here is too long already,
-- and so its beginning dropped, and the bytes that are left.
pub record Between : Type 0 where
  pub table : Bytes
  pub text : Bytes
  pub long : Bool
  pub left : Bytes

-- the message of a line, of which `long` says that it is too long already
unfoldable pub message_left : (long : Bool) → (line : Bytes) → Option Bytes
message_left true line = none
message_left false line = message_of line

-- what follows an answer
abbrev pub after : Between → Answered → (left : Bytes) → Between
after b a left = record { table = a.table; text = b.text ++ a.text; long = false; left = left }

-- the next line, which ends before the first line feed, is answered
unfoldable pub next : Between → Between
next b =
    let end : ℕ = index_of line_feed b.left in
    after b (answer_of b.table (message_left b.long (take end b.left))) (drop (suc end) b.left)

-- there is room for one more answer; there is a whole line
unfoldable pub has_room : (room : ℕ) → Between → Bool
has_room room b = leb (length b.text + answer_room) room

unfoldable pub has_line : Between → Bool
has_line b = ltb (index_of line_feed b.left) (length b.left)

-- whole lines are answered while there is room; there are no more of them than bytes
unfoldable pub answering : (room bytes : ℕ) → Between → Between
answering room zero b = b
answering room (suc n) b = elim (has_room room b && has_line b) [ true ↦ answering room n (next b) | false ↦ b ]

-- a line that is not finished is kept, unless it is too long
unfoldable pub keeping : Between → Between
keeping b =
    elim (b.long || ltb greatest_line (length b.left)) [
      | true ↦ record { table = b.table; text = b.text; long = true; left = [] }
      | false ↦ b
    ]

-- A piece is fed: its whole lines, and then, if there was room for all of them, what is not finished.
unfoldable pub answered : (room : ℕ) → (table : Bytes) → (long : Bool) → (piece : Bytes) → Between
answered room t long piece = answering room (length piece) (record { table = t; text = []; long = long; left = piece })

unfoldable pub fed : (room : ℕ) → (table : Bytes) → (long : Bool) → (piece : Bytes) → Between
fed room t long piece =
    let b : Between = answered room t long piece in
    elim (has_room room b) [ true ↦ keeping b | false ↦ b ]

-- what is said of a piece of n bytes, of which `at` are taken, and the others are such a line
unfoldable pub kept : (n at : ℕ) → (long : Bool) → Fed
kept n at long =
    elim (long || ltb greatest_line (n - at)) [
      | true ↦ record { taken = n; long = true; full = false }
      | false ↦ record { taken = at; long = false; full = false }
    ]

-- The promise: every byte of the answers and of the table, and what is left of the piece.
pub record Feeds (table : Bytes) (long : Bool) (piece : Bytes) (before : Text) (r : Fed) (after : Text) (table_after : Bytes) : Type 0 where
  pub wrote : Wrote before (fed (room before) table long piece).text after
  pub changed : table_after ≡ (fed (room before) table long piece).table
  pub begun : r.long ≡ (fed (room before) table long piece).long
  pub left : drop r.taken piece ≡ (fed (room before) table long piece).left
  pub within : r.taken ≤ length piece
  pub full : r.full ≡ not (has_room (room before) (answered (room before) table long piece))
  pub short : r.full ≡ false → length piece ≤ r.taken + greatest_line

-- The last line has no line feed: "A last line without a line feed counts unless it is empty."
unfoldable pub finished : (table : Bytes) → (long : Bool) → (line : Bytes) → Answered
finished t true line = answer_of t none
finished t false [] = record { text = []; table = t }
finished t false (b ∷ bs) = answer_of t (message_of (b ∷ bs))

-- A run: pieces are read one after the other, behind what is left (a piece may be empty), and fed; the last line ends it.
unfoldable pub turn : (room : ℕ) → Between → (piece : Bytes) → Between
turn room b piece =
    let f : Between = fed room b.table b.long (b.left ++ piece) in
    record { table = f.table; text = b.text ++ f.text; long = f.long; left = f.left }

unfoldable pub run : (room : ℕ) → Between → (pieces : List Bytes) → Between
run room b [] = b
run room b (piece ∷ more) = run room (turn room b piece) more

unfoldable pub joined : (pieces : List Bytes) → Bytes
joined [] = []
joined (piece ∷ more) = piece ++ joined more

-- the program's run, and all that it writes
unfoldable pub ran : (room : ℕ) → (pieces : List Bytes) → Between
ran room pieces = run room (record { table = program_table; text = []; long = false; left = [] }) pieces

unfoldable pub written : (room : ℕ) → (pieces : List Bytes) → Bytes
written room pieces =
    let b : Between = ran room pieces in
    b.text ++ (finished b.table b.long b.left).text
