-- The sum that is compared is the length of the store afterwards.
-- The returns in order: 66 e7; done.
use Rattle.std.proofs.Common.{arith, rules}
use Rattle.rules.specs.Answers.{code_number}
use Rattle.laws.proofs.TableRecords.{formed}
use Rattle.registering.proofs.Room.{needed-small, register-no-room, append-needs, register-done}
use Rattle.registering.proofs.append_if_room.Goals as goal

pub overflow_add-after : goal.overflow_add-after
overflow_add-after c =
    let table = c.args.table.now in
    let form = formed table.bytes.now table.form in
    omega (arith, form.few, form.fits, table.count)

pub overflow_add-after-2 : goal.overflow_add-after-2
overflow_add-after-2 c =
    let small = needed-small c.args.table.now c.requires.sound_table c.args.d.now c.requires.appendable c.records_needed-needed.ensures in
    omega (arith, small)

pub returns-then-table-after : goal.returns-then-table-after
unfolding code_number
returns-then-table-after c =
    register-no-room c.args.table.now c.requires.sound_table c.args.d.now c.requires.appendable c.records_needed-needed.ensures
    (search rules) c.args.tests

pub append-requires : goal.append-requires
append-requires c =
    append-needs c.args.table.now c.requires.sound_table c.args.d.now c.requires.appendable c.records_needed-needed.ensures
    (search rules) c.key_of.ensures c.address_word-address.ensures

pub returns : goal.returns
returns c =
    register-done c.args.table.now c.requires.sound_table c.args.d.now c.requires.appendable c.records_needed-needed.ensures
    (search rules) c.key_of.ensures c.address_word-address.ensures c.append.ensures c.args.tests
