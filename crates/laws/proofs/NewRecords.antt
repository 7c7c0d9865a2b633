-- The records that Register stores: the new procedure's own, the place of its key and the list's length. The procedure's own rise
-- from its address slot on, and the other two stand in another region: no key stands twice.
use Prim.Native.Nat.{ℕ, suc, ◌+◌, ◌-◌, ◌^◌, ◌≤◌, ◌<◌}
use native.Mathlib.Omega.{arith}
use mathlib.Core.Path.{◌≡◌}
use mathlib.Core.List.{List, ◌∷◌}
use Rattle.rules.specs.Table.{Store, Record, ◌holds◌}
use Rattle.rules.specs.KernelStorage.{slot, ending, address_slot, index_slot, length_slot, place_slot}
use Rattle.rules.specs.Capabilities.{kinds}
use Rattle.rules.specs.Procedures.{list_length}
use Rattle.rules.specs.Messages.{Request}
use Rattle.rules.specs.Calls.{kind_records}
use Rattle.rules.proofs.Lists.{◌also◌}
use Rattle.laws.proofs.Stores.{Misses}
use Rattle.laws.proofs.Records.{Apart, Rising, rising-misses, rising-apart}
use Rattle.laws.proofs.Slots.{Fits, slot-middle, slot-less-region, regions-apart, fixed, in_procedure}
use Rattle.laws.proofs.KindFacts.{kinds-climb}
use Rattle.laws.proofs.Places.{place-fits}
use Rattle.laws.proofs.RegisterRecords.{Storable, Registration, slot-after, kinds-rise}

-- the records of the new procedure, and all that are stored
abbrev pub procedure_records : (place p a : ℕ) → List Request → List Record
procedure_records place p a rs = address_slot p holds a ∷ index_slot p holds place ∷ kind_records p rs kinds

abbrev pub new_records : (place p a : ℕ) → List Request → List Record
new_records place p a rs = place_slot place holds p ∷ length_slot holds place ∷ procedure_records place p a rs

-- Those of the procedure rise, from its address slot on.
pub procedure-rises : (place p a : ℕ) (rs : List Request) → Storable rs
    → Rising (address_slot p) (address_slot p + 2 ^ 24) (procedure_records place p a rs)
unfolding index_slot ending
procedure-rises place p a rs storable =
    let second = slot-after p 1 in
    omega arith
    also omega arith
    also kinds-rise p rs storable (suc (slot 0 p 1)) 3 kinds kinds-climb (omega arith) (omega arith)

-- A slot of the procedure is below every slot of another region.
pub own_below : (p : ℕ) → p < 2 ^ 192 → (k : ℕ) → address_slot p ≤ k → k < address_slot p + 2 ^ 24 → (r m e : ℕ) → 0 < r → k < slot r m e
own_below p fits k from below r m e other =
    let here = slot-after p (k - address_slot p) in
    let first = slot-less-region m e (in_procedure p fits (k - address_slot p) (omega arith)) other in
    omega arith

module _ {s : Store} {p a : ℕ} {rs : List Request} (new : Registration s p a rs) where
  abbrev place : ℕ
  place = suc (list_length s)

  abbrev own : List Record
  own = procedure_records place p a rs

  -- The slots fit their bytes.
  pub new-fits : Fits 1 place 0
  new-fits = place-fits place (omega arith)

  pub length-fits : Fits 1 0 0
  length-fits = fixed 1 (omega arith)

  pub own-fits : (e : ℕ) → e < 2 ^ 24 → Fits 0 p e
  own-fits = in_procedure p new.is_key.fits

  -- A key that is no slot of the procedure is none of theirs.
  pub own-rises : Rising (address_slot p) (address_slot p + 2 ^ 24) own
  own-rises = procedure-rises place p a rs new.storable

  pub own-misses : (k : ℕ) → ((e : ℕ) → e < 2 ^ 24 → k ≡ slot 0 p e → ⊥) → Misses k own
  own-misses k other =
      rising-misses (address_slot p) (address_slot p + 2 ^ 24) own own-rises k
      (λ from below. other (k - address_slot p) (omega arith) (let z = slot-after p (k - address_slot p) in omega arith))

  pub apart : Apart (new_records place p a rs)
  unfolding place_slot length_slot
  apart = (
    (λ q. let z = slot-middle new-fits length-fits q in omega arith, list-misses new-fits),
    (list-misses length-fits, rising-apart _ _ own own-rises),
  )
    where
      list-misses : {m e : ℕ} → Fits 1 m e → Misses (slot 1 m e) own
      list-misses f = own-misses _ (λ e h. regions-apart f (own-fits e h) (λ z. omega arith))
