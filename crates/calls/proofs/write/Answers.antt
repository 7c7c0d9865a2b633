-- Each return is a place in the row; where no check fails, `needed` says that there is room.
-- The returns in order: 33 (two); 66 e7; done.
use Rattle.std.proofs.Common.{◌/◌, ◌≤◌, refl, length, rules}
use Rattle.rules.specs.Table.{room}
use Rattle.rules.specs.Capabilities.{number}
use Rattle.rules.specs.Answers.{code_number}
use Rattle.acting.proofs.Permission.{acts-on-address}
use Rattle.calls.proofs.WriteRow.{write-not-covered, write-into-kernel, write-no-room, write_done}
use Rattle.calls.proofs.write.Goals as goal

pub permits-requires-clause-acts_on : goal.permits-requires-clause-acts_on
unfolding number
permits-requires-clause-acts_on c = acts-on-address refl c.requires.word_bytes_in_bounds c.write_address-address.ensures

pub returns-then-not-permits : goal.returns-then-not-permits
unfolding code_number number
returns-then-not-permits c =
    write-not-covered c.args.table.now c.records-read.ensures.bytes c.args.d.now c.write_address-address.ensures
    c.write_value-value.ensures c.permits.ensures c.if-not-permits.true

pub returns-then-in_kernel_storage : goal.returns-then-in_kernel_storage
unfolding code_number number
returns-then-in_kernel_storage c =
    write-into-kernel c.args.table.now c.records-read.ensures.bytes c.args.d.now c.write_address-address.ensures
    c.write_value-value.ensures c.permits.ensures c.if-not-permits.false c.in_kernel_storage.ensures c.if-in_kernel_storage.true

pub returns-then-read-needed : goal.returns-then-read-needed
unfolding code_number number
returns-then-read-needed c =
    write-no-room c.args.table.now c.records-read.ensures.bytes c.args.d.now c.write_address-address.ensures
    c.write_value-value.ensures c.permits.ensures c.if-not-permits.false c.in_kernel_storage.ensures c.if-in_kernel_storage.false
    c.needed.ensures (search rules)

pub put-requires : goal.put-requires
unfolding room
put-requires c =
    let fits : c.needed.result ≤ length c.records-read.result.bytes.now / 64 = search rules in
    rw (c.needed.ensures, c.records-read.ensures.bytes) at fits

pub returns : goal.returns
unfolding number
returns c =
    write_done c.args.table.now c.records-read.ensures.bytes c.args.d.now c.write_address-address.ensures
    c.write_value-value.ensures c.permits.ensures c.if-not-permits.false c.in_kernel_storage.ensures c.if-in_kernel_storage.false
    c.needed.ensures (search rules) c.put.ensures
