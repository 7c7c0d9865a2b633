-- A procedure's records, and what the functions that store them ask.
use Rattle.std.specs.Prelude.{ℕ, ◌≡◌, List, [], ◌∷◌, ◌++◌, false}
use Rattle.rules.specs.Words.{Bytes}
use Rattle.rules.specs.Table.{Record, ◌holds◌}
use Rattle.rules.specs.KernelStorage.{address_slot, index_slot}
use Rattle.rules.specs.Capabilities.{kinds}
use Rattle.rules.specs.Messages.{Request, series_at, requests}
use Rattle.rules.specs.Calls.{kind_records, too_many}
use Rattle.requests.specs.Requests.{WellFormedFrom}
use Rattle.capability_records.specs.CapabilityRecords.{Takes}

-- the address and the index
abbrev pub naming_records : (place p a : ℕ) → List Record
naming_records place p a = address_slot p holds a ∷ index_slot p holds place ∷ []

-- these, and then the records of the capabilities; the laws about them (crates/laws/proofs/NewRecords.antt) speak of the same list
abbrev pub procedure_records : (place p a : ℕ) → List Request → List Record
procedure_records place p a rs = naming_records place p a ++ kind_records p rs kinds

-- what is asked where all requested capabilities are stored
pub record KindsNeeds (t : Bytes) (p : ℕ) (d : Bytes) : Type 0 where
  pub well_formed : WellFormedFrom d series_at
  pub few : too_many (requests d) ≡ false
  pub takes : Takes t (kind_records p (requests d) kinds)

-- what is asked where a procedure's records are stored
pub record ProcedureNeeds (t : Bytes) (place p a : ℕ) (d : Bytes) : Type 0 where
  pub well_formed : WellFormedFrom d series_at
  pub few : too_many (requests d) ≡ false
  pub takes : Takes t (procedure_records place p a (requests d))
