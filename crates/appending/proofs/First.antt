-- The whole registration: the key's place and the list's length, and then the records of the procedure, which has none yet.
use Rattle.std.proofs.Common.{ℕ, suc, ◌+◌, ◌^◌, ◌≤◌, ◌<◌, arith, add-one, ap, ◌∙◌}
use Rattle.rules.specs.Words.{Bytes}
use Rattle.rules.specs.Table.{Store, get, puts, room, store}
use Rattle.rules.specs.KernelStorage.{address_slot, length_slot, place_slot}
use Rattle.rules.specs.Messages.{requests}
use Rattle.rules.specs.Calls.{after_register}
use Rattle.laws.proofs.Stores.{Misses, get-puts-other}
use Rattle.laws.proofs.NewRecords.{own_below}
use Rattle.storing.specs.Storing.{Became}
use Rattle.storing.specs.declared.table.Table.{Table}
use Rattle.capability_records.specs.CapabilityRecords.{Takes}
use Rattle.procedure_records.specs.ProcedureRecords.{procedure_records}
use Rattle.appending.specs.Appending.{place_records, NewNeeds, AppendNeeds}
use Rattle.appending.proofs.Room.{roomy_after}

module _ {t : Bytes} {places p a : ℕ} {d : Bytes} {needed : ℕ} (need : AppendNeeds t places p a d needed) where
  pub place-takes : Takes t (place_records (places + 1) p)
  place-takes =
      rw add-one
      (roomy_after (room t) (store t) (place_records (suc places) p)
      (need.is_key.non_zero, (omega arith, tt)) (omega (arith, need.fits)))

  -- the list's slots are none of the procedure's
  misses : (k : ℕ) → address_slot p ≤ k → k < address_slot p + 2 ^ 24 → Misses k (place_records (places + 1) p)
  unfolding place_slot length_slot
  misses k from below =
      let first = own_below p need.is_key.fits k from below 1 (places + 1) 0 (omega arith) in
      let second = own_below p need.is_key.fits k from below 1 0 0 (omega arith) in
      (λ q. omega (arith, first, q), (λ q. omega (arith, second, q), tt))

module _ {before listed : Table} {places p a : ℕ} {d : Bytes} {needed : ℕ}
    (need : AppendNeeds before.bytes.now places p a d needed)
    (b : Became before listed (puts (store before.bytes.now) (place_records (places + 1) p))) where
  pub new-needs : NewNeeds listed.bytes.now (places + 1) p a d needed
  unfolding room
  new-needs =
      record {
        place_non_zero = omega arith;
        address_non_zero = need.address_non_zero;
        well_formed = need.well_formed;
        few = need.few;
        none = λ k from below.
            ap (λ (x : Store). get x k) b.stored
            ∙ get-puts-other (store before.bytes.now) (place_records (places + 1) p) k (misses need k from below)
            ∙ need.none k from below;
        counted = need.counted;
        fits = rw (b.stored, b.long, add-one) need.fits;
      }

  pub appended : {later : Table} → Became listed later (puts (store listed.bytes.now) (procedure_records (places + 1) p a (requests d)))
      → Became before later (after_register (store before.bytes.now) p a (requests d))
  unfolding after_register puts
  appended h =
      record { lent = h.lent ∙ b.lent; long = h.long ∙ b.long; stored = rw (← need.listed, ← add-one) (rw b.stored at h.stored) }
