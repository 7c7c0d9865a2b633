-- Two stores, each at a slot that is present: the freed place, and the index of the key that stood last.
use Rattle.unlisting.proofs.Moving.{key-ready, index-ready, both_stored}
use Rattle.unlisting.proofs.move_last.Goals as goal

pub put-requires : goal.put-requires
put-requires c =
    key-ready c.args.table.now c.requires c.records.ensures.bytes c.place_slot.ensures c.value_at-last.ensures
    c.place_slot-2.ensures

pub put-requires-2 : goal.put-requires-2
put-requires-2 c =
    index-ready c.args.table.now c.requires c.records.ensures.bytes c.place_slot.ensures c.value_at-last.ensures
    c.place_slot-2.ensures c.put.ensures c.key_part.ensures c.index_slot-index_slot.ensures c.number_word.ensures

pub returns : goal.returns
returns c =
    both_stored c.args.table.now c.requires c.records.ensures.bytes c.place_slot.ensures c.value_at-last.ensures
    c.place_slot-2.ensures c.put.ensures c.key_part.ensures c.index_slot-index_slot.ensures c.number_word.ensures c.put-2.ensures
