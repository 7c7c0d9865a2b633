-- What the functions that make the first table ask, and the data of a Register that requests the first procedure's capabilities.
use Rattle.std.specs.Prelude.{ℕ, ◌≤◌, ◌≡◌, List, [], ◌∷◌, ◌++◌, true, length, replicate}
use Rattle.rules.specs.Words.{Bytes}
use Rattle.rules.specs.Table.{store, length_fits}
use Rattle.rules.specs.Sound.{IsKey, IsAddress}
use Rattle.rules.specs.Messages.{Request, series_at}
use Rattle.rules.specs.Calls.{first_capabilities}
use Rattle.rules.specs.Examples.{words_in_bytes, requested}

-- "Set-up needs 13 records (832 bytes)"
abbrev pub first_room : ℕ
first_room = 832

-- the words of a series: CapSize, CapType and the words of each request
abbrev pub request_words : List Request → List ℕ
request_words [] = []
request_words (r ∷ rs) = requested r.kind r.capability ++ request_words rs

-- data that requests what set-up gives; what stands before the series is not read
unfoldable pub first_series : Bytes
first_series = replicate series_at 0 ++ words_in_bytes (request_words first_capabilities)

-- a table without records that has room for the first ones
pub record Empty (t : Bytes) : Type 0 where
  pub none : store t ≡ []
  pub long : first_room ≤ length t

-- what set-up is lent, where no check of its row fails
pub record SetUpLent (t : Bytes) (k a ka : ℕ) : Type 0 where
  pub fits : length_fits t ≡ true
  pub long : first_room ≤ length t
  pub key : IsKey k
  pub address : IsAddress a
  pub kernel_address : IsAddress ka
