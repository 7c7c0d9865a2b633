-- Each type's row is carried out by its own function; where no other is left, the type is Write.
use Rattle.std.proofs.Common.{rules}
use Rattle.rules.specs.Capabilities.{call, register, delete, set_entry, write, number}
use Rattle.rules.specs.Calls.{own_row}
use Rattle.results.proofs.Rows.{leaves}
use Rattle.system.proofs.OwnRow.{call-names, delete-names, set-entry-names, register-names, is-write, write-long, shown-of-kind}
use Rattle.system.proofs.of_kind.Goals as goal

pub call-requires : goal.call-requires
unfolding number
call-requires c =
    record { sound_table = rw c.records.ensures.bytes c.requires.sound_table; names_key = call-names c.requires.acceptable (search rules) }

pub returns-in-CALL : goal.returns-in-CALL
unfolding own_row number
returns-in-CALL c =
    shown-of-kind c.args.table.now c.args.d.now c.args.code.now c.args.mask.now call (search rules)
    (leaves c.args.table.now (rw c.records.ensures.bytes at c.call.ensures))

pub register-requires : goal.register-requires
unfolding number
register-requires c =
    record { sound_table = c.requires.sound_table; names_procedure = register-names c.requires.acceptable (search rules) }

pub returns-in-REGISTER : goal.returns-in-REGISTER
unfolding own_row number
returns-in-REGISTER c =
    shown-of-kind c.args.table.now c.args.d.now c.args.code.now c.args.mask.now register (search rules)
    c.register.ensures

pub delete-requires : goal.delete-requires
unfolding number
delete-requires c =
    record { sound_table = c.requires.sound_table; names_key = delete-names c.requires.acceptable (search rules) }

pub returns-in-DELETE : goal.returns-in-DELETE
unfolding own_row number
returns-in-DELETE c =
    shown-of-kind c.args.table.now c.args.d.now c.args.code.now c.args.mask.now delete (search rules)
    c.delete.ensures

pub set_entry-requires : goal.set_entry-requires
unfolding number
set_entry-requires c =
    record { sound_table = c.requires.sound_table; names_key = set-entry-names c.requires.acceptable (search rules) }

pub returns-in-SET_ENTRY : goal.returns-in-SET_ENTRY
unfolding own_row number
returns-in-SET_ENTRY c =
    shown-of-kind c.args.table.now c.args.d.now c.args.code.now c.args.mask.now set_entry (search rules)
    c.set_entry.ensures

pub write-requires : goal.write-requires
unfolding number
write-requires c =
    let a = c.requires.acceptable in
    record { sound_table = c.requires.sound_table; word_bytes_in_bounds = write-long a (is-write a (search rules) (search rules) (search rules) (search rules)) }

pub returns-in_default : goal.returns-in_default
unfolding own_row number
returns-in_default c =
    shown-of-kind c.args.table.now c.args.d.now c.args.code.now c.args.mask.now write
    (is-write c.requires.acceptable (search rules) (search rules) (search rules) (search rules)) c.write.ensures
