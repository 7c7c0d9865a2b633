-- What the functions that store a registration ask.
use Rattle.std.specs.Prelude.{ℕ, suc, ◌+◌, ◌^◌, ◌≤◌, ◌<◌, ◌≡◌, List, [], ◌∷◌, false, length}
use Rattle.rules.specs.Words.{Bytes}
use Rattle.rules.specs.Table.{Store, Record, ◌holds◌, get, puts, room, store}
use Rattle.rules.specs.KernelStorage.{address_slot, length_slot, place_slot}
use Rattle.rules.specs.Procedures.{list_length}
use Rattle.rules.specs.Messages.{series_at, requests}
use Rattle.rules.specs.Sound.{IsKey}
use Rattle.rules.specs.Calls.{greatest_list, too_many}
use Rattle.requests.specs.Requests.{WellFormedFrom}
use Rattle.counting.specs.Counting.{Needed}

-- the records of the list, with the place of the new procedure
abbrev pub place_records : (place p : ℕ) → List Record
place_records place p = place_slot place holds p ∷ length_slot holds place ∷ []

-- a store without a record of the procedure p, whose slots follow its address slot
abbrev pub NoneOf : (p : ℕ) → Store → Type 0
NoneOf p s = (k : ℕ) → address_slot p ≤ k → k < address_slot p + 256 ^ 3 → get s k ≡ 0

-- what is asked where a procedure's records are stored in a table that has none: the room is for those that are not zero, which are
-- its address, its index and the `needed` ones of its capabilities
pub record NewNeeds (t : Bytes) (place p a : ℕ) (d : Bytes) (needed : ℕ) : Type 0 where
  pub place_non_zero : 1 ≤ place
  pub address_non_zero : 1 ≤ a
  pub well_formed : WellFormedFrom d series_at
  pub few : too_many (requests d) ≡ false
  pub none : NoneOf p (store t)
  pub counted : Needed d needed
  pub fits : length (store t) + 2 + needed ≤ room t

-- what is asked of a registration: the room is for the records of the list too
pub record AppendNeeds (t : Bytes) (places p a : ℕ) (d : Bytes) (needed : ℕ) : Type 0 where
  pub listed : places ≡ list_length (store t)
  pub short : places ≤ greatest_list
  pub is_key : IsKey p
  pub address_non_zero : 1 ≤ a
  pub well_formed : WellFormedFrom d series_at
  pub few : too_many (requests d) ≡ false
  pub none : NoneOf p (store t)
  pub counted : Needed d needed
  pub fits : length (puts (store t) (place_records (suc places) p)) + 2 + needed ≤ room t
