-- What the functions that store the capabilities of one type ask, and the room that records need which are stored one after the other.
use Rattle.std.specs.Prelude.{ℕ, ◌*◌, ◌≤◌, ◌≡◌, List, [], ◌∷◌, length}
use Rattle.rules.specs.Words.{Bytes, word_bytes, words}
use Rattle.rules.specs.Table.{Store, Record, put, puts, room, store}
use Rattle.rules.specs.Capabilities.{Kind, number, word_count}
use Rattle.rules.specs.Messages.{series_at, requests, requested_of}
use Rattle.rules.specs.Sound.{greatest_count}
use Rattle.rules.specs.Calls.{word_records, capability_records}
use Rattle.storing.specs.Storing.{Became}
use Rattle.storing.specs.declared.table.Table.{Table}
use Rattle.requests.specs.Requests.{WellFormedFrom}

-- a table of that many records has room for the records of a list, stored one after the other
abbrev pub Roomy : (rooms : ℕ) → Store → List Record → Type 0
Roomy rooms s [] = Unit {0}
Roomy rooms s (r ∷ rs) = (length (put s r.key r.value) ≤ rooms) × Roomy rooms (put s r.key r.value) rs

-- a table in which the records of a list can be stored
abbrev pub Takes : (t : Bytes) → List Record → Type 0
Takes t rs = Roomy (room t) (store t) rs

-- what is asked where the words of the i-th capability of p, of the type that n names, are stored: bytes begin with them
pub record WordsNeeds (t : Bytes) (p n i : ℕ) (bs : Bytes) : Type 0 where
  pub kind : Kind
  pub names : number kind ≡ n
  pub within : word_bytes * word_count kind ≤ length bs
  pub takes : Takes t (word_records p kind i 0 (words (word_count kind) bs))

-- they are stored
abbrev pub WordsStored : (before after : Table) (p n i : ℕ) (bs : Bytes) → Type 0
WordsStored before after p n i bs =
    (kind : Kind) → number kind ≡ n → Became before after (puts (store before.bytes.now) (word_records p kind i 0 (words (word_count kind) bs)))

-- what is asked where the requested capabilities of p, of the type that n names, `count` in all, are stored
pub record KindNeeds (t : Bytes) (p n count : ℕ) (d : Bytes) : Type 0 where
  pub kind : Kind
  pub names : number kind ≡ n
  pub well_formed : WellFormedFrom d series_at
  pub counted : count ≡ length (requested_of kind (requests d))
  pub few : count ≤ greatest_count
  pub takes : Takes t (capability_records p kind 1 (requested_of kind (requests d)))

abbrev pub KindStored : (before after : Table) (p n : ℕ) (d : Bytes) → Type 0
KindStored before after p n d =
    (kind : Kind) → number kind ≡ n → Became before after (puts (store before.bytes.now) (capability_records p kind 1 (requested_of kind (requests d))))
