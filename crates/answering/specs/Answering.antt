-- A line's answer: one step of the rules' `answers_from` (`answers-step`).
use Rattle.std.specs.Prelude.{ℕ, ◌/◌, ◌≡◌, [], ◌∷◌, ◌++◌}
use Rattle.std.proofs.Math.Option.{Option, none, some}
use Rattle.rules.specs.Words.{Bytes}
use Rattle.rules.specs.Answers.{Outcome}
use Rattle.rules.specs.Calls.{system_call}
use Rattle.rules.specs.Program.{line_feed, greatest_line, printed, program_code, program_mask}
use Rattle.writing.specs.declared.text.Text.{Text}
use Rattle.writing.specs.Wrote.{Wrote}
use Rattle.printing.specs.Printing.{other_line, line_room}

-- what is printed, and every byte of the table after
pub record Answered : Type 0 where
  pub text : Bytes
  pub table : Bytes

-- of a message, or of a line that has none
unfoldable pub answer_of : (table : Bytes) → (message : Option Bytes) → Answered
answer_of t none = record { text = other_line; table = t }
answer_of t (some m) =
    let o : Outcome = system_call t m program_code program_mask in
    record { text = printed o.answer ++ (line_feed ∷ []); table = o.table }

-- The promise: the answer is written, and the table is the one after it.
pub record Answers (a : Answered) (before after : Text) (table_after : Bytes) : Type 0 where
  pub wrote : Wrote before a.text after
  pub changed : table_after ≡ a.table

-- room for any line's message, which has half as many bytes as its line has digits; and for its answer, since no payload is longer
abbrev pub message_room : ℕ
message_room = greatest_line / 2

abbrev pub answer_room : ℕ
answer_room = line_room message_room
