-- The program: it reads lines of hex, one message each, and prints a line for each answer. Characters are bytes of ASCII.
use Rattle.std.specs.Prelude.{ℕ, zero, suc, ◌+◌, ◌*◌, ◌/◌, ◌%◌, ◌-◌, List, [], ◌∷◌, ◌++◌, true, false, ◌&&◌, eqb, leb, ltb, length, replicate}
use Rattle.std.proofs.Math.Option.{Option, none, some}
use Rattle.rules.specs.Words.{key_bytes, address_bytes, word_bytes, Bytes, bytes_of}
use Rattle.rules.specs.Table.{greatest_table}
use Rattle.rules.specs.Answers.{code_number, code_bytes, Answer, refused, done, called, registered, looked, Outcome}
use Rattle.rules.specs.Calls.{set_up, system_call}

abbrev pub line_feed : ℕ
line_feed = 0x0a

abbrev pub space : ℕ
space = 0x20

abbrev pub question_mark : ℕ
question_mark = 0x3f

-- "It reads lines": each ends with a line feed. "A last line without a line feed counts unless it is empty."
unfoldable pub last_line : (line : Bytes) → List Bytes
last_line [] = []
last_line (b ∷ bs) = (b ∷ bs) ∷ []

unfoldable pub lines_from : (line input : Bytes) → List Bytes
lines_from line [] = last_line line
lines_from line (b ∷ rest) = elim (eqb b line_feed) [ true ↦ line ∷ lines_from [] rest | false ↦ lines_from (line ++ (b ∷ [])) rest ]

unfoldable pub lines : (input : Bytes) → List Bytes
lines input = lines_from [] input

-- "lower-case hex": 0 to 9, a to f
unfoldable pub digit_of : (character : ℕ) → Option ℕ
digit_of c =
    elim (leb 0x30 c && leb c 0x39) [
      | true ↦ some (c - 0x30)
      | false ↦ elim (leb 0x61 c && leb c 0x66) [ true ↦ some (c - 0x57) | false ↦ none ]
    ]

-- two digits are a byte, before the bytes that follow
unfoldable pub byte_before : (high low : Option ℕ) → Option Bytes → Option Bytes
byte_before none low rest = none
byte_before (some h) none rest = none
byte_before (some h) (some l) none = none
byte_before (some h) (some l) (some bs) = some ((h * 16 + l) ∷ bs)

unfoldable pub digits : Bytes → Option Bytes
digits [] = some []
digits (h ∷ []) = none
digits (h ∷ l ∷ rest) = byte_before (digit_of h) (digit_of l) (digits rest)

-- "an even number of digits up to 4,096"
abbrev pub greatest_line : ℕ
greatest_line = 4096

-- the message of a line; none if it is not such a line
unfoldable pub message_of : (line : Bytes) → Option Bytes
message_of line = elim (leb (length line) greatest_line) [ true ↦ digits line | false ↦ none ]

-- a byte in hex; bytes in hex; a number in decimal
unfoldable pub hex_digit : ℕ → ℕ
hex_digit n = elim (ltb n 10) [ true ↦ 0x30 + n | false ↦ 0x57 + n ]

unfoldable pub hex : Bytes → Bytes
hex [] = []
hex (b ∷ bs) = hex_digit (b / 16) ∷ hex_digit (b % 16) ∷ hex bs

unfoldable pub decimal_before : (digits_at_most n : ℕ) → Bytes → Bytes
decimal_before zero n ds = ds
decimal_before (suc more) n ds =
    elim (ltb n 10) [ true ↦ (0x30 + n) ∷ ds | false ↦ decimal_before more (n / 10) ((0x30 + n % 10) ∷ ds) ]

unfoldable pub decimal : ℕ → Bytes
decimal n = decimal_before (suc n) n []

-- "payload (left out with its space if empty)"
unfoldable pub spaced : Bytes → Bytes
spaced [] = []
spaced (b ∷ bs) = space ∷ hex (b ∷ bs)

-- "It prints `1`; for Call `1`, address, payload ..; for Register `1` and the tests in decimal; or `0` and the code.
-- Fields are parted by one space." (No message is answered with Look's value.)
unfoldable pub printed : Answer → Bytes
printed (refused c) = 0x30 ∷ spaced (code_bytes (code_number c))
printed done = 0x31 ∷ []
printed (called address payload) = 0x31 ∷ (spaced address ++ spaced payload)
printed (registered tests) = 0x31 ∷ space ∷ decimal tests
printed (looked value) = 0x31 ∷ spaced value

-- "A program sets up a full-size table (key, address, kernel address all zero but last bytes 01, 11, 22),
-- with code 00 and a mask of 00 only."
unfoldable pub program_table : Bytes
program_table = (set_up (replicate greatest_table 0) (bytes_of key_bytes 0x01) (bytes_of address_bytes 0x11) (bytes_of address_bytes 0x22)).table

unfoldable pub program_code : Bytes
program_code = 0x00 ∷ []

unfoldable pub program_mask : Bytes
program_mask = 0x01 ∷ replicate (word_bytes - 1) 0

-- "one message each ..; other lines print `?`"; the table lasts from line to line
unfoldable pub answers_from : (table : Bytes) → List Bytes → Bytes
answers_from t [] = []
answers_from t (line ∷ more) =
    elim (message_of line) [
      | none ↦ question_mark ∷ line_feed ∷ answers_from t more
      | some m ↦
          let o : Outcome = system_call t m program_code program_mask in
          printed o.answer ++ (line_feed ∷ answers_from o.table more)
    ]

-- what the program writes for its whole input
unfoldable pub program : (input : Bytes) → Bytes
program input = answers_from program_table (lines input)
