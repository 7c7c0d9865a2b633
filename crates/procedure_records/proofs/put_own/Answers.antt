-- Two stores, one after the other: the room that the second needs is what the first leaves of it (`Left`).
use Rattle.std.proofs.Common.{refl, [], ◌∷◌}
use Rattle.rules.specs.Words.{num}
use Rattle.rules.specs.Table.{◌holds◌, puts, store}
use Rattle.rules.specs.KernelStorage.{index_slot}
use Rattle.procedure_records.specs.ProcedureRecords.{naming_records}
use Rattle.capability_records.proofs.Left.{Left, left-all, left-none, left-ready, left-put}
use Rattle.procedure_records.proofs.put_own.Goals as goal
use Rattle.procedure_records.proofs.put_own.Goals.{After-put}

-- the index is left
index-left : (c : After-put)
    → Left c.args.table.now c.put.new.self (index_slot (num c.args.procedure.now) holds c.args.place ∷ [])
    (puts (store c.args.table.now.bytes.now) (naming_records c.args.place (num c.args.procedure.now) (num c.args.address.now)))
index-left c =
    left-put (left-all c.requires) refl c.address_slot.ensures (record { size = c.told-address; number = refl }) c.put.ensures

pub put-requires-2 : goal.put-requires-2
put-requires-2 c = left-ready (index-left (goal.at.put-requires-2 c).After-put) refl c.index_slot.ensures c.number_word.ensures

pub returns : goal.returns
returns c =
    left-none (left-put (index-left (goal.at.returns c).After-put) refl c.index_slot.ensures c.number_word.ensures c.put-2.ensures)
