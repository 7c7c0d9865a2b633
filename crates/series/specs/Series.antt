-- What is promised of the requests of a well-formed series.
use Rattle.std.specs.Prelude.{ℕ, ◌+◌, ◌*◌, ◌-◌, ◌≤◌, ◌≡◌, List, [], ◌∷◌, true, length, take, drop, Option, None, Some}
use Rattle.rules.specs.Words.{Bytes, word_bytes, words}
use Rattle.rules.specs.Capabilities.{Kind, call, register, delete, set_entry, write, number, word_count, prefix_in_range}
use Rattle.rules.specs.Messages.{Request as Requested, series_at, requests, requested_of}
use Rattle.requests.specs.Requests.{WellFormed, requests_in, request_of_kind}
use Rattle.series.specs.declared.Request.{Request}
use Rattle.series.specs.declared.Series.{Series}

-- r is the first request of a well-formed series, and the series goes on behind it
pub record FirstRequest (rest : Bytes) (r : Request) : Type 0 where
  pub kind : Kind
  pub type : r.kind.0 ≡ number kind
  pub words : r.words.now ≡ take (word_bytes * word_count kind) (drop (2 * word_bytes) rest)
  pub size : length r.words.now ≡ word_bytes * word_count kind
  pub within : 2 * word_bytes + length r.words.now ≤ length rest
  pub in_range : prefix_in_range kind (request_of_kind rest kind).capability ≡ true
  pub first : requests_in rest ≡ request_of_kind rest kind ∷ requests_in (drop (2 * word_bytes + length r.words.now) rest)
  pub well_formed : WellFormed (drop (2 * word_bytes + length r.words.now) rest)

-- of requests that are read one after the other: those that are left, and their bytes
abbrev pub left : Series → List Requested
left it = requests_in it.rest.now

abbrev pub bytes_left : Series → ℕ
bytes_left it = length it.rest.now

abbrev pub WellFormedLeft : Series → Type 0
WellFormedLeft it = WellFormed it.rest.now

-- all requests of a well-formed series are left
pub record AllLeft (d : Bytes) (it : Series) : Type 0 where
  pub all : left it ≡ requests d
  pub bytes : bytes_left it ≡ length d - series_at
  pub rest : WellFormedLeft it

-- r is the first of the requests that were left
pub record FirstLeft (old : Series) (r : Request) (new : Series) : Type 0 where
  pub request : Requested
  pub type : r.kind.0 ≡ number request.kind
  pub size : length r.words.now ≡ word_bytes * word_count request.kind
  pub capability : request.capability ≡ words (word_count request.kind) r.words.now
  pub in_range : prefix_in_range request.kind request.capability ≡ true
  pub first : left old ≡ request ∷ left new
  pub bytes : bytes_left old ≡ 2 * word_bytes + length r.words.now + bytes_left new

-- the first that was left is given; or none is left, now and later
abbrev pub GivesRequest : Series → Option Request → Series → Type 0
GivesRequest old None new = (left old ≡ []) × (left new ≡ [])
GivesRequest old (Some r) new = FirstLeft old r new

-- how many are requested of each type, at the type's number
unfoldable pub requested_counts : List Requested → List ℕ
requested_counts rs =
    0
    ∷ 0
    ∷ 0
    ∷ length (requested_of call rs)
    ∷ length (requested_of register rs)
    ∷ length (requested_of delete rs)
    ∷ length (requested_of set_entry rs)
    ∷ length (requested_of write rs)
    ∷ []
