-- Each step's promise is the next one's need: the last key moves, the length is lowered, the last place and the procedure's
-- records go. None of it lengthens the table.
use Rattle.std.proofs.Common.{arith}
use Rattle.unlisting.proofs.Unlisting.{movable, some-place, length-ready, last-ready, unlisted}
use Rattle.unlisting.proofs.unlist.Goals as goal

pub move_last-requires : goal.move_last-requires
move_last-requires c =
    movable c.args.table.now c.requires c.records-read.ensures.bytes c.list_length-places.ensures.all c.place_of-freed.ensures

pub overflow_sub-places : goal.overflow_sub-places
overflow_sub-places c =
    omega (
      arith,
      some-place c.args.table.now c.requires c.records-read.ensures.bytes c.list_length-places.ensures.all
          c.place_of-freed.ensures,
    )

pub put-requires : goal.put-requires
put-requires c =
    length-ready c.args.table.now c.requires c.records-read.ensures.bytes c.list_length-places.ensures.all
    c.place_of-freed.ensures c.move_last.ensures c.length_slot.ensures c.number_word.ensures

pub put-requires-2 : goal.put-requires-2
put-requires-2 c =
    last-ready c.args.table.now c.requires c.records-read.ensures.bytes c.list_length-places.ensures.all
    c.place_of-freed.ensures c.move_last.ensures c.length_slot.ensures c.number_word.ensures c.put.ensures c.place_slot.ensures

pub returns : goal.returns
returns c =
    unlisted c.args.table.now c.requires c.records-read.ensures.bytes c.list_length-places.ensures.all
    c.place_of-freed.ensures c.move_last.ensures c.length_slot.ensures c.number_word.ensures c.put.ensures c.place_slot.ensures
    c.put-2.ensures c.remove_procedure.ensures
