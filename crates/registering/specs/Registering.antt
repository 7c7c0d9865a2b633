-- What the parts of Register's row ask, and what is left of the row at each.
use Rattle.std.specs.Prelude.{ℕ, ◌*◌, ◌≤◌, ◌≡◌, [], false, length, drop}
use Rattle.rules.specs.Words.{Bytes, word_bytes}
use Rattle.rules.specs.Table.{Store, store}
use Rattle.rules.specs.Procedures.{list_length, listed}
use Rattle.rules.specs.Messages.{greatest_message, series_at, key_too_long, address_too_long, key_word, address_word, requests}
use Rattle.rules.specs.Answers.{Result, ◌then◌}
use Rattle.rules.specs.Calls.{greatest_list, tests, too_many, register_row, register_effect}
use Rattle.requests.specs.Requests.{WellFormedFrom}

-- data with an index, a key word and an address word, which have no leading bytes
pub record NamesProcedure (d : Bytes) : Type 0 where
  pub long : 3 * word_bytes ≤ length d
  pub not_longer : length d ≤ greatest_message
  pub key_fits : key_too_long d ≡ false
  pub address_fits : address_too_long d ≡ false

-- neither is zero, and the series is well formed
pub record Judgeable (d : Bytes) : Type 0 where
  pub names : NamesProcedure d
  pub key_non_zero : 1 ≤ key_word d
  pub address_non_zero : 1 ≤ address_word d
  pub well_formed : WellFormedFrom d series_at

-- few enough are requested of each type, and the key is not listed among the `places`
pub record Appendable (t : Bytes) (places : ℕ) (d : Bytes) : Type 0 where
  pub judged : Judgeable d
  pub few : too_many (requests d) ≡ false
  pub all : places ≡ list_length (store t)
  pub short : places ≤ greatest_list
  pub unlisted : listed (store t) (key_word d) ≡ false

-- Register's row from the requests on, and from the room on. Code and mask are judged before, so any stand for them here.
abbrev pub on_requests : (rooms : ℕ) → Store → (d : Bytes) → Result
on_requests rooms s d = drop 6 (register_row rooms s d [] []) then register_effect s d (tests s (requests d))

abbrev pub on_room : (rooms : ℕ) → Store → (d : Bytes) → (tests : ℕ) → Result
on_room rooms s d n = drop 10 (register_row rooms s d [] []) then register_effect s d n
