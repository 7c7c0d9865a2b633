-- Each return is a place in the row.
-- The returns in order: 66 e4 (two); 33; 66 e9; 66 e5; the rest of the row.
use Rattle.rules.specs.Capabilities.{number}
use Rattle.rules.specs.Answers.{code_number}
use Rattle.registering.proofs.RegisterRow.{acts-on-procedure, register-zero-key, register-zero-address, register-not-covered, register-code-fails, register-malformed, judgeable, register-requests}
use Rattle.registering.proofs.register.Goals as goal

pub returns-then-is_zero : goal.returns-then-is_zero
unfolding code_number
returns-then-is_zero c =
    register-zero-key c.args.table.now c.args.d.now c.args.code.now c.args.mask.now c.key_word-key.ensures
    c.is_zero.ensures c.if-is_zero.true

pub returns-then-is_zero-2 : goal.returns-then-is_zero-2
unfolding code_number
returns-then-is_zero-2 c =
    register-zero-address c.args.table.now c.args.d.now c.args.code.now c.args.mask.now c.key_word-key.ensures
    c.is_zero.ensures c.if-is_zero.false c.address_word.ensures c.is_zero-2.ensures c.if-is_zero-2.true

pub permits-requires : goal.permits-requires
unfolding number
permits-requires c =
    record { sound_table = rw c.records.ensures.bytes c.requires.sound_table; acts_on = acts-on-procedure c.requires.names_procedure c.key_word-key.ensures }

pub returns-then-not-permits : goal.returns-then-not-permits
unfolding code_number number
returns-then-not-permits c =
    register-not-covered c.args.table.now c.args.d.now c.args.code.now c.args.mask.now c.key_word-key.ensures
    c.is_zero.ensures c.if-is_zero.false c.address_word.ensures c.is_zero-2.ensures c.if-is_zero-2.false
    (rw c.records.ensures.bytes at c.permits.ensures) c.if-not-permits.true

pub returns-then-not-passes : goal.returns-then-not-passes
unfolding code_number number
returns-then-not-passes c =
    register-code-fails c.args.table.now c.args.d.now c.args.code.now c.args.mask.now c.key_word-key.ensures
    c.is_zero.ensures c.if-is_zero.false c.address_word.ensures c.is_zero-2.ensures c.if-is_zero-2.false
    (rw c.records.ensures.bytes at c.permits.ensures) c.if-not-permits.false c.passes.ensures c.if-not-passes.true

pub returns-then-not-well_formed : goal.returns-then-not-well_formed
unfolding code_number number
returns-then-not-well_formed c =
    register-malformed c.args.table.now c.args.d.now c.args.code.now c.args.mask.now c.key_word-key.ensures
    c.is_zero.ensures c.if-is_zero.false c.address_word.ensures c.is_zero-2.ensures c.if-is_zero-2.false
    (rw c.records.ensures.bytes at c.permits.ensures) c.if-not-permits.false c.passes.ensures c.if-not-passes.false
    c.well_formed-2.ensures c.if-not-well_formed.true

pub judge_series-requires : goal.judge_series-requires
unfolding number
judge_series-requires c = record {
  sound_table = c.requires.sound_table;
  judgeable = judgeable c.args.table.now c.args.d.now c.args.code.now c.args.mask.now c.key_word-key.ensures
      c.is_zero.ensures c.if-is_zero.false c.address_word.ensures c.is_zero-2.ensures c.if-is_zero-2.false
      (rw c.records.ensures.bytes at c.permits.ensures) c.if-not-permits.false c.passes.ensures c.if-not-passes.false
      c.well_formed-2.ensures
      c.requires.names_procedure c.if-not-well_formed.false;
}

pub returns : goal.returns
unfolding number
returns c =
    register-requests c.args.table.now c.args.d.now c.args.code.now c.args.mask.now c.key_word-key.ensures
    c.is_zero.ensures c.if-is_zero.false c.address_word.ensures c.is_zero-2.ensures c.if-is_zero-2.false
    (rw c.records.ensures.bytes at c.permits.ensures) c.if-not-permits.false c.passes.ensures c.if-not-passes.false
    c.well_formed-2.ensures c.if-not-well_formed.false c.judge_series.ensures
