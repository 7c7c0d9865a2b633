-- Each return is a place in the row.
-- The returns in order: 66 77; 33; 66 e1; 66 e8; the rest of the row.
use Rattle.std.proofs.Common.{arith, rules}
use Rattle.rules.specs.Answers.{code_number}
use Rattle.listing.proofs.Lookups.{few}
use Rattle.registering.proofs.RegisterRow.{register-too-many, register-not-granted, register-listed, register-list-full, appendable, register-rest}
use Rattle.registering.proofs.judge_series.Goals as goal

pub returns-then-too_many : goal.returns-then-too_many
unfolding code_number
returns-then-too_many c =
    register-too-many c.args.table.now c.args.d.now c.too_many.ensures c.if-too_many.true

pub judge_requests-requires : goal.judge_requests-requires
judge_requests-requires c =
    let names = c.requires.judgeable.names in
    record { sound_table = rw c.records.ensures.bytes c.requires.sound_table; well_formed_from = (c.requires.judgeable.well_formed, names.not_longer) }

pub returns-in_default : goal.returns-in_default
unfolding code_number
returns-in_default c =
    register-not-granted c.args.table.now c.args.d.now c.too_many.ensures c.if-too_many.false
    (rw (c.in_default.is, c.records.ensures.bytes) at c.judge_requests.ensures)

pub returns-then-is_listed : goal.returns-then-is_listed
unfolding code_number
returns-then-is_listed c =
    register-listed c.args.table.now c.args.d.now c.too_many.ensures c.if-too_many.false
    (rw c.records.ensures.bytes at c.in-Some.ensures) c.key_of.ensures (rw c.records-2.ensures.bytes at c.is_listed.ensures) c.if-is_listed.true

pub returns-then-places-eq-GREATEST_LIST : goal.returns-then-places-eq-GREATEST_LIST
unfolding code_number
returns-then-places-eq-GREATEST_LIST c =
    register-list-full c.args.table.now c.args.d.now c.too_many.ensures c.if-too_many.false
    (rw c.records.ensures.bytes at c.in-Some.ensures) c.key_of.ensures (rw c.records-2.ensures.bytes at c.is_listed.ensures) c.if-is_listed.false
    (rw c.records-3.ensures.bytes at c.list_length-places.ensures.all) (search rules)

pub append_if_room-requires : goal.append_if_room-requires
append_if_room-requires c =
    record {
      sound_table = c.requires.sound_table;
      appendable = appendable c.args.table.now c.args.d.now c.too_many.ensures c.if-too_many.false
          (rw c.records.ensures.bytes at c.in-Some.ensures) c.key_of.ensures (rw c.records-2.ensures.bytes at c.is_listed.ensures) c.if-is_listed.false
          (rw c.records-3.ensures.bytes at c.list_length-places.ensures.all)
          c.requires.judgeable (omega (arith, few c.records-3.result, c.list_length-places.ensures.short));
    }

pub returns : goal.returns
returns c =
    register-rest c.args.table.now c.args.d.now c.too_many.ensures c.if-too_many.false
    (rw c.records.ensures.bytes at c.in-Some.ensures) c.key_of.ensures (rw c.records-2.ensures.bytes at c.is_listed.ensures) c.if-is_listed.false
    (rw c.records-3.ensures.bytes at c.list_length-places.ensures.all) (search rules) c.append_if_room.ensures
