-- Two stores, one after the other: the room that the second needs is what the first leaves of it (`Left`).
use Rattle.std.proofs.Common.{refl, [], ◌∷◌}
use Rattle.rules.specs.Words.{num}
use Rattle.rules.specs.Table.{◌holds◌, puts, store}
use Rattle.rules.specs.KernelStorage.{length_slot}
use Rattle.capability_records.proofs.Left.{Left, left-all, left-none, left-ready, left-put}
use Rattle.appending.specs.Appending.{place_records}
use Rattle.appending.proofs.put_place.Goals as goal
use Rattle.appending.proofs.put_place.Goals.{After-put}

-- the length is left
length-left : (c : After-put)
    → Left c.args.table.now c.put.new.self (length_slot holds c.args.place ∷ [])
    (puts (store c.args.table.now.bytes.now) (place_records c.args.place (num c.args.procedure.now)))
length-left c = left-put (left-all c.requires) refl c.place_slot.ensures c.right_word.ensures c.put.ensures

pub put-requires-2 : goal.put-requires-2
put-requires-2 c = left-ready (length-left (goal.at.put-requires-2 c).After-put) refl c.length_slot.ensures c.number_word.ensures

pub returns : goal.returns
returns c =
    left-none (left-put (length-left (goal.at.returns c).After-put) refl c.length_slot.ensures c.number_word.ensures c.put-2.ensures)
