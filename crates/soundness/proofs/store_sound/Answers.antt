-- The list, then the procedures, then the rest.
use Rattle.std.proofs.Common.{◌∙◌, arith}
use Rattle.soundness.proofs.Whole.{before-list, list-not, room, laid, blocks-not, sound-list, rest-if}
use Rattle.soundness.proofs.store_sound.Goals as goal

pub list_form-requires : goal.list_form-requires
list_form-requires c = before-list c.args.table c.length_slot.ensures c.keys_below-list.ensures

pub overflow_sub-places : goal.overflow_sub-places
overflow_sub-places c =
    omega (arith, room c.args.table c.length_slot.ensures c.keys_below-list.ensures c.list_form.ensures c.if-not-list_form.false)

pub overflow_sub-places-2 : goal.overflow_sub-places-2
overflow_sub-places-2 c =
    omega (arith, room c.args.table c.length_slot.ensures c.keys_below-list.ensures c.list_form.ensures c.if-not-list_form.false)

pub blocks_form-requires : goal.blocks_form-requires
blocks_form-requires c =
    laid c.args.table c.length_slot.ensures c.keys_below-list.ensures c.list_form.ensures c.if-not-list_form.false

pub rest_sound-requires : goal.rest_sound-requires
rest_sound-requires c =
    sound-list c.args.table c.length_slot.ensures c.keys_below-list.ensures c.list_form.ensures c.if-not-list_form.false
    c.blocks_form.ensures c.if-blocks_form.true

pub returns-then-blocks_form : goal.returns-then-blocks_form
returns-then-blocks_form c =
    rest-if c.args.table c.length_slot.ensures c.keys_below-list.ensures c.list_form.ensures c.if-not-list_form.false
    c.blocks_form.ensures c.if-blocks_form.true c.rest_sound.ensures

pub returns-else-blocks_form : goal.returns-else-blocks_form
returns-else-blocks_form c =
    c.if-blocks_form.false
    ∙ blocks-not c.args.table c.length_slot.ensures c.keys_below-list.ensures c.list_form.ensures c.if-not-list_form.false
    c.blocks_form.ensures c.if-blocks_form.false

pub returns-then-not-list_form : goal.returns-then-not-list_form
returns-then-not-list_form c =
    list-not c.args.table c.length_slot.ensures c.keys_below-list.ensures c.list_form.ensures c.if-not-list_form.true
