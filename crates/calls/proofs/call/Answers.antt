-- Each return is a place in the row.
-- The returns in order: 33; 66 33; the address.
use Rattle.std.proofs.Common.{refl}
use Rattle.rules.specs.Capabilities.{call, number}
use Rattle.rules.specs.Answers.{code_number}
use Rattle.acting.proofs.Permission.{acts-on-key}
use Rattle.calls.proofs.CalleeAddress.{address_word, address-fits}
use Rattle.calls.proofs.CallRow.{call-not-covered, call-not-listed, call-done}
use Rattle.calls.proofs.call.Goals as goal

pub permits-requires-clause-acts_on : goal.permits-requires-clause-acts_on
unfolding number
permits-requires-clause-acts_on c = acts-on-key call refl c.requires.names_key c.key_word.ensures

pub returns-then-not-permits : goal.returns-then-not-permits
unfolding code_number number
returns-then-not-permits c =
    call-not-covered c.args.table.bytes.now c.args.d.now c.key_word.ensures c.permits.ensures
    c.if-not-permits.true

pub returns-then-not-is_listed : goal.returns-then-not-is_listed
unfolding code_number number
returns-then-not-is_listed c =
    call-not-listed c.args.table.bytes.now c.args.d.now c.key_word.ensures c.permits.ensures
    c.if-not-permits.false c.key_of-callee.ensures c.is_listed.ensures c.if-not-is_listed.true

pub address_part-requires : goal.address_part-requires
address_part-requires c =
    address-fits c.args.table.bytes.now c.requires.sound_table c.key_of-callee.result.now c.address_slot.ensures
    c.value_at-word.ensures c.is_listed.ensures c.if-not-is_listed.false

pub returns : goal.returns
unfolding number
returns c =
    call-done c.args.table.bytes.now c.args.d.now c.key_word.ensures c.permits.ensures
    c.if-not-permits.false c.key_of-callee.ensures c.is_listed.ensures c.if-not-is_listed.false
    c.value_at-word.result
    (address_word c.args.table.bytes.now c.requires.sound_table c.key_of-callee.result.now c.address_slot.ensures
    c.value_at-word.ensures)
    c.address_part.ensures
