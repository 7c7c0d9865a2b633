-- The records are put in the part of the table that ends with the room, and that leaves the whole as `Between` says.
use Rattle.std.proofs.Common.{ℕ, ◌+◌, ◌*◌, arith, ◌≡◌, refl, sym, ap, ◌∙◌, ◌++◌, length, drop, length-take-le}
use Rattle.rules.specs.Words.{num}
use Rattle.rules.specs.Table.{puts, store}
use Rattle.rules.specs.KernelStorage.{address_slot}
use Rattle.rules.specs.Messages.{requests}
use Rattle.finding.specs.Finding.{keys_below}
use Rattle.storing.proofs.Stored.{Stored, counted}
use Rattle.procedure_records.specs.ProcedureRecords.{procedure_records}
use Rattle.appending.proofs.Between.{room_fits, room_small, part-within, part-form, part-count, procedure-needs, procedure-inserted}
use Rattle.appending.proofs.insert_procedure.Goals as goal
use Rattle.appending.proofs.insert_procedure.Goals.{After-keys_below-i, After-put_behind}

-- the place of the first record
place : (c : After-keys_below-i)
    → c.keys_below-i.result ≡ keys_below (store c.args.table.now.bytes.now) (address_slot (num c.args.procedure.now))
place c =
    (rw c.records.ensures.bytes at c.keys_below-i.ensures)
    ∙ ap (λ (k : ℕ). keys_below (store c.args.table.now.bytes.now) k) c.address_slot.ensures.number

-- what the table holds in the end
held-all : (c : After-put_behind)
    → c.keys_below-i.result ≡ keys_below (store c.args.table.now.bytes.now) (address_slot (num c.args.procedure.now))
    → Stored (length c.args.table.now.bytes.now)
    (c.put_behind.new.t ++ drop (64 * (c.keys_below-i.result + (2 + c.args.needed))) c.make_room.new.t)
    (c.args.table.now.used + (2 + c.args.needed))
    (puts (store c.args.table.now.bytes.now)
    (procedure_records c.args.place (num c.args.procedure.now) (num c.args.address.now) (requests c.args.d.now)))
held-all c i =
    procedure-inserted c.args.table.now c.requires i c.make_room.ensures c.put_behind.new.t
    c.put_behind.auto.t c.put_behind.ensures.form c.put_behind.ensures.stored

pub make_room-requires : goal.make_room-requires
make_room-requires c = room_fits c.args.table.now c.requires (place (goal.at.make_room-requires c).After-keys_below-i)

pub overflow_add-end : goal.overflow_add-end
overflow_add-end c = omega (arith, room_small c.args.table.now c.requires (place (goal.at.overflow_add-end c).After-keys_below-i))

pub overflow_mul-end : goal.overflow_mul-end
overflow_mul-end c = omega (arith, room_small c.args.table.now c.requires (place (goal.at.overflow_mul-end c).After-keys_below-i))

pub slice_bounds-put_behind-end : goal.slice_bounds-put_behind-end
slice_bounds-put_behind-end c =
    part-within c.args.table.now c.requires (place (goal.at.slice_bounds-put_behind-end c).After-keys_below-i) c.make_room.ensures

pub slice_bounds-put_behind-end-2 : goal.slice_bounds-put_behind-end-2
slice_bounds-put_behind-end-2 c =
    let i = place (goal.at.slice_bounds-put_behind-end-2 c).After-keys_below-i in
    sym (length-take-le _ _ (part-within c.args.table.now c.requires i c.make_room.ensures))

pub put_behind-requires-clause-form : goal.put_behind-requires-clause-form
put_behind-requires-clause-form c =
    let i = place (goal.at.put_behind-requires-clause-form c).After-keys_below-i in
    part-form c.args.table.now c.requires i c.make_room.ensures

pub put_behind-requires-clause-count : goal.put_behind-requires-clause-count
put_behind-requires-clause-count c =
    let i = place (goal.at.put_behind-requires-clause-count c).After-keys_below-i in
    part-count c.args.table.now c.requires i c.make_room.ensures

pub put_behind-requires-clause-needs : goal.put_behind-requires-clause-needs
put_behind-requires-clause-needs c =
    let i = place (goal.at.put_behind-requires-clause-needs c).After-keys_below-i in
    procedure-needs c.args.table.now c.requires i c.make_room.ensures

pub overflow_add-table : goal.overflow_add-table
overflow_add-table c =
    omega (arith, room_small c.args.table.now c.requires (place (goal.at.overflow_add-table c).After-keys_below-i))

pub invariant_of-table : goal.invariant_of-table
invariant_of-table c =
    let at = goal.at.invariant_of-table c in
    let h = held-all at.After-put_behind (place at.After-keys_below-i) in
    record { form = h.form; count = counted h }

pub returns : goal.returns
returns c =
    let at = goal.at.returns c in
    let h = held-all at.After-put_behind (place at.After-keys_below-i) in
    record { lent = refl; long = h.long; stored = h.stored }
