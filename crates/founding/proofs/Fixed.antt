-- The three records that set-up stores itself, and the room for them in an empty table: each is one more at most.
use Rattle.std.proofs.Common.{ℕ, arith, ap, List, [], ◌∷◌, length}
use Rattle.rules.specs.Words.{Bytes}
use Rattle.rules.specs.Table.{Record, ◌holds◌, put, puts, room, store}
use Rattle.rules.specs.KernelStorage.{kernel_address_slot, current_slot, entry_slot}
use Rattle.rules.specs.Calls.{fixed_records}
use Rattle.laws.proofs.Stores.{put-length}
use Rattle.storing.specs.declared.table.Table.{Table}
use Rattle.capability_records.specs.CapabilityRecords.{Takes}
use Rattle.capability_records.proofs.Left.{Left, left-all}
use Rattle.founding.specs.Founding.{Empty}

abbrev three : (k ka : ℕ) → List Record
three k ka = kernel_address_slot holds ka ∷ current_slot holds k ∷ entry_slot holds k ∷ []

three-fit : {t : Bytes} (k ka : ℕ) → Empty t → Takes t (three k ka)
unfolding room
three-fit {t} k ka e =
    let s = store t in
    let first = put-length s kernel_address_slot ka in
    let second = put-length (put s kernel_address_slot ka) current_slot k in
    let third = put-length (put (put s kernel_address_slot ka) current_slot k) entry_slot k in
    let none = ap length e.none in (
      omega (arith, e.long, none, first),
      (
        omega (arith, e.long, none, first, second),
        (omega (arith, e.long, none, first, second, third), tt),
      ),
    )

-- all three are left to store
pub fixed-left : (table : Table) (k ka : ℕ) → Empty table.bytes.now → Left table table (three k ka) (fixed_records k ka)
unfolding fixed_records puts
fixed-left table k ka e =
    let all : Left table table (three k ka) (puts (store table.bytes.now) (three k ka)) = left-all (three-fit k ka e) in
    rw e.none at all
