-- Three stores, one after the other: the room that the next needs is what those before it leave (`Left`).
use Rattle.std.proofs.Common.{refl, [], ◌∷◌}
use Rattle.rules.specs.Words.{num}
use Rattle.rules.specs.Table.{◌holds◌}
use Rattle.rules.specs.KernelStorage.{current_slot, entry_slot}
use Rattle.rules.specs.Calls.{fixed_records}
use Rattle.capability_records.proofs.Left.{Left, left-none, left-ready, left-put}
use Rattle.founding.proofs.Fixed.{fixed-left}
use Rattle.founding.proofs.put_fixed.Goals as goal
use Rattle.founding.proofs.put_fixed.Goals.{After-put}

-- two are left after the first
two-left : (c : After-put)
    → Left c.args.table.now c.put.new.self (current_slot holds num c.args.key.now ∷ entry_slot holds num c.args.key.now ∷ [])
    (fixed_records (num c.args.key.now) (num c.args.kernel_address.now))
two-left c =
    left-put (fixed-left c.args.table.now (num c.args.key.now) (num c.args.kernel_address.now) c.requires) refl
    c.kernel_address_slot.ensures c.right_word.ensures c.put.ensures

pub put-requires : goal.put-requires
put-requires c =
    left-ready (fixed-left c.args.table.now (num c.args.key.now) (num c.args.kernel_address.now) c.requires) refl
    c.kernel_address_slot.ensures c.right_word.ensures

pub put-requires-2 : goal.put-requires-2
put-requires-2 c =
    left-ready (two-left (goal.at.put-requires-2 c).After-put) refl c.current_slot.ensures c.right_word-word.ensures

pub put-requires-3 : goal.put-requires-3
put-requires-3 c =
    left-ready
    (left-put (two-left (goal.at.put-requires-3 c).After-put) refl c.current_slot.ensures c.right_word-word.ensures c.put-2.ensures)
    refl c.entry_slot.ensures c.right_word-word.ensures

pub returns : goal.returns
returns c =
    left-none (
    left-put
    (left-put (two-left (goal.at.returns c).After-put) refl c.current_slot.ensures c.right_word-word.ensures c.put-2.ensures)
    refl c.entry_slot.ensures c.right_word-word.ensures c.put-3.ensures)
