-- Register's series, and what is left of one behind its first requests, which is a series too.
use Rattle.std.specs.Prelude.{ℕ, ◌+◌, ◌*◌, ◌/◌, ◌≡◌, List, false, length, drop, Option, None, Some}
use Rattle.std.proofs.Math.Option.{Option as Maybe, none, some}
use Rattle.rules.specs.Words.{Bytes, word_bytes, word_at, words}
use Rattle.rules.specs.Capabilities.{Kind, word_count}
use Rattle.rules.specs.Messages.{Request as Requested, request_at, series, malformed, or_empty}

-- a series is well formed
abbrev pub WellFormed : (rest : Bytes) → Type 0
WellFormed rest = malformed (series rest) ≡ false

-- the series that begins at an offset of the data is well formed
abbrev pub WellFormedFrom : (d : Bytes) → (at : ℕ) → Type 0
WellFormedFrom d at = WellFormed (drop at d)

-- the requests of a series: what a loop over it has still to do
unfoldable pub requests_in : (rest : Bytes) → List Requested
requests_in rest = or_empty (series rest)

-- the whole words of bytes
unfoldable pub words_in : Bytes → List ℕ
words_in bs = words (length bs / word_bytes) bs

-- the first request of a series; none if it is malformed
unfoldable pub first_request : (rest : Bytes) → Maybe Requested
first_request rest = request_at (word_at rest 0) (words_in (drop word_bytes rest))

-- the first request of a series, if it has a type: its words come behind CapSize and CapType
abbrev pub request_of_kind : (rest : Bytes) → Kind → Requested
request_of_kind rest kind = record { kind = kind; capability = words (word_count kind) (drop (2 * word_bytes) rest) }

-- the bytes of a request: CapSize, CapType and its words; none if it is malformed
unfoldable pub request_length : Maybe Requested → Option ℕ
request_length none = None
request_length (some r) = Some (2 * word_bytes + word_bytes * length r.capability)
