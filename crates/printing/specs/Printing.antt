-- What is printed for a reply of the source; for one that stands for an answer it is what the rules print (`printed-reply`).
use Rattle.std.specs.Prelude.{ℕ, ◌+◌, ◌*◌, [], ◌∷◌, ◌++◌, Ok, Err}
use Rattle.rules.specs.Words.{Bytes}
use Rattle.rules.specs.Answers.{code_bytes}
use Rattle.rules.specs.Program.{line_feed, space, question_mark, decimal, spaced}
use Rattle.rules.specs.declared.Success.TheVariants.{Done, Called, Registered, Looked}
use Rattle.rules.specs.Source.{Reply}

-- the flag's digit
unfoldable pub printed_flag : Reply → ℕ
printed_flag (Ok success) = 0x31
printed_flag (Err c) = 0x30

-- the fields after it, each with its space
unfoldable pub printed_fields : Reply → (payload : Bytes) → Bytes
printed_fields (Ok Done) p = []
printed_fields (Ok (Called a)) p = spaced a ++ spaced p
printed_fields (Ok (Registered n)) p = space ∷ decimal n
printed_fields (Ok (Looked v)) p = spaced v
printed_fields (Err c) p = spaced (code_bytes c.0)

unfoldable pub printed_reply : Reply → (payload : Bytes) → Bytes
printed_reply r p = printed_flag r ∷ printed_fields r p

-- the line that is printed for a line without a message
unfoldable pub other_line : Bytes
other_line = question_mark ∷ line_feed ∷ []

-- room for the fields with a payload of n bytes, of which the longest that has none is Look's value; and for a whole line
abbrev pub fields_room : (n : ℕ) → ℕ
fields_room n = 66 + 2 * n

abbrev pub line_room : (n : ℕ) → ℕ
line_room n = 2 + fields_room n
