-- How many records the values of a registration take.
use Rattle.std.specs.Prelude.{ℕ, ◌+◌, ◌/◌, ◌≤◌, ◌≡◌, List, [], ◌∷◌, Bool, true, false, eqb, length}
use Rattle.rules.specs.Words.{Bytes, word_bytes, words}
use Rattle.rules.specs.Table.{Record}
use Rattle.rules.specs.Capabilities.{Kind, kinds}
use Rattle.rules.specs.Messages.{Request, requests, requested_of}
use Rattle.rules.specs.Calls.{kind_records}

-- how many records a value takes, by whether it is zero: "storing zero removes a record"
abbrev pub taken_if : (zero : Bool) → ℕ
taken_if true = 0
taken_if false = 1

unfoldable pub taken_by : (value : ℕ) → ℕ
taken_by v = taken_if (eqb v 0)

-- how many records of a list have a value that is not zero: storing the list adds no more than these
unfoldable pub non_zero : List Record → ℕ
non_zero [] = 0
non_zero (r ∷ rs) = taken_by r.value + non_zero rs

-- Those of the capabilities, counted in another order: the words of the requests that are not zero, and the types that are
-- requested.
unfoldable pub words_taken : List ℕ → ℕ
words_taken [] = 0
words_taken (w ∷ ws) = taken_by w + words_taken ws

unfoldable pub requests_taken : List Request → ℕ
requests_taken [] = 0
requests_taken (r ∷ rs) = words_taken r.capability + requests_taken rs

unfoldable pub kinds_taken : List Request → List Kind → ℕ
kinds_taken rs [] = 0
kinds_taken rs (kind ∷ more) = taken_by (length (requested_of kind rs)) + kinds_taken rs more

-- r counts the words of bytes that are not zero
pub record WordsTaken (bs : Bytes) (r : ℕ) : Type 0 where
  pub is : r ≡ words_taken (words (length bs / word_bytes) bs)
  pub small : r ≤ length bs / word_bytes

-- r counts the records that are not zero, whichever procedure the capabilities are requested for
pub record Needed (d : Bytes) (r : ℕ) : Type 0 where
  pub is : (p : ℕ) → r ≡ non_zero (kind_records p (requests d) kinds)
  pub small : r ≤ length d + 5
