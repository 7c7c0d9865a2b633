-- Answers and codes: the codes in hex, what each answer reports, and the row of checks that decides.
use Rattle.std.specs.Prelude.{ℕ, ◌/◌, ◌%◌, List, [], ◌∷◌, Bool, true, false, eqb, ltb, length, replicate}
use Rattle.rules.specs.Words.{address_bytes, word_bytes, Bytes}
use Rattle.rules.specs.Table.{Store, bytes}

-- The codes, named by their last byte as the document's rows name them; 33, 66 33 and 66 77 are x33, x6633 and x77.
pub data Refusal : Type 0 where
  ed ef e0 ea aa eb e6 e4 x33 e9 e5 x77 e1 e2 e3 x6633 e8 e7 : Refusal

abbrev pub refusals : List Refusal
refusals =
    ed ∷ ef ∷ e0 ∷ ea ∷ aa ∷ eb ∷ e6 ∷ e4 ∷ x33 ∷ e9 ∷ e5 ∷ x77 ∷ e1 ∷ e2 ∷ e3 ∷ x6633 ∷ e8 ∷ e7 ∷ []

-- a code as a number: its bytes, read as one ("Codes e0 and above are ours."). The comments are the rows of document 01's
-- table of codes; that of 66 eb is of document 02.
unfoldable pub code_number : Refusal → ℕ
-- "a key, address, slot key or mask of the wrong number of bytes"
code_number ed = 0x66ed
-- "table length wrong; or, except at set-up, table not sound"
code_number ef = 0x66ef
-- "message empty, or data below its minimum"
code_number e0 = 0x66e0
-- "message above 65,536 bytes"
code_number ea = 0x66ea
-- "type not 0, 3, 4, 5, 6, 7"
code_number aa = 0xaa
-- of document 02, No. 1: "Null, Set Entry, Delete and Write now refuse data beyond their format"
code_number eb = 0x66eb
-- "key word with a non-zero byte in its first 8; Register's address word with one in its first 12"
code_number e6 = 0x66e6
-- "Register or set-up: key or address zero (set-up: kernel address too)"
code_number e4 = 0x66e4
-- "capability index out of range or not covering; a Write into kernel storage; a requested capability within none held"
code_number x33 = 0x33
-- "code does not pass"
code_number e9 = 0x66e9
-- "capability series malformed: wrong size, type or prefix, non-zero leading bytes, or a cut end"
code_number e5 = 0x66e5
-- "more than 255 requested of one type"
code_number x77 = 0x6677
-- "key already listed"
code_number e1 = 0x66e1
-- "Delete of the entry key"
code_number e2 = 0x66e2
-- "of the current key"
code_number e3 = 0x66e3
-- "Call, Delete, Set Entry, Turn: key not listed"
code_number x6633 = 0x6633
-- "list length is 16,777,215"
code_number e8 = 0x66e8
-- "the table afterwards would need more records than it has room for"
code_number e7 = 0x66e7

-- the one or two bytes of such a number
unfoldable pub code_bytes : ℕ → Bytes
code_bytes n = elim (ltb n 256) [ true ↦ n ∷ [] | false ↦ n / 256 ∷ n % 256 ∷ [] ]

-- What a call answers.
pub data Answer : Type 0 where
  -- a refusal with its code
  refused : Refusal → Answer
  -- a success that reports nothing else
  done : Answer
  -- Call: "Success gives the callee's address and the payload"
  called : (address payload : Bytes) → Answer
  -- Register: "Success reports the tests"
  registered : (tests : ℕ) → Answer
  -- Look: the slot's value
  looked : (value : Bytes) → Answer

-- The result fields of an answer.
pub record Fields : Type 0 where
  pub flag : ℕ
  pub code : Bytes
  pub tests : ℕ
  pub address : Bytes
  pub payload : Bytes
  pub value : Bytes

-- "Result fields that an answer does not name are zero or empty."
abbrev pub no_address : Bytes
no_address = replicate address_bytes 0

abbrev pub no_value : Bytes
no_value = replicate word_bytes 0

-- "A success is flag 1 with no code bytes. .. A refusal is flag 0 with these bytes, no other result"
unfoldable pub fields : Answer → Fields
fields (refused c) =
    record { flag = 0; code = code_bytes (code_number c); tests = 0; address = no_address; payload = []; value = no_value }
fields done = record { flag = 1; code = []; tests = 0; address = no_address; payload = []; value = no_value }
fields (called a p) = record { flag = 1; code = []; tests = 0; address = a; payload = p; value = no_value }
fields (registered n) = record { flag = 1; code = []; tests = n; address = no_address; payload = []; value = no_value }
fields (looked v) = record { flag = 1; code = []; tests = 0; address = no_address; payload = []; value = v }

unfoldable pub succeeds : Answer → Bool
succeeds a = eqb (fields a).flag 1

-- What a call comes to: refused; answered with nothing changed; or answered with the store afterwards.
pub data Result : Type 0 where
  refuse : Refusal → Result
  answer : Answer → Result
  change : Answer → Store → Result

-- A row of checks in the document's order. `condition ⇒ code`: if the condition holds, the call is refused with this code.
pub record Check : Type 0 where
  pub fails : Bool
  pub code : Refusal

infix 68 ◌⇒◌
abbrev pub ◌⇒◌ : Bool → Refusal → Check
fails ⇒ code = record { fails = fails; code = code }

-- the first check that fails refuses; if none does, the result
unfoldable pub judge : List Check → Result → Result
judge [] r = r
judge (c ∷ cs) r = elim c.fails [ true ↦ refuse c.code | false ↦ judge cs r ]

infix 20 ◌then◌
abbrev pub ◌then◌ : List Check → Result → Result
checks then result = judge checks result

-- A call's answer, and every byte of the table after.
pub record Outcome : Type 0 where
  pub answer : Answer
  pub table : Bytes

-- on refusal "a table equal byte for byte to the one lent"
unfoldable pub outcome : Bytes → Result → Outcome
outcome t (refuse c) = record { answer = refused c; table = t }
outcome t (answer a) = record { answer = a; table = t }
outcome t (change a s) = record { answer = a; table = bytes (length t) s }
