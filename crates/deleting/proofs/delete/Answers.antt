-- Each return is a place in the row.
-- The returns in order: 33; 66 e2; 66 33; 66 e3; done.
use Rattle.std.proofs.Common.{refl}
use Rattle.rules.specs.Capabilities.{delete, number}
use Rattle.rules.specs.Answers.{code_number}
use Rattle.acting.proofs.Permission.{acts-on-key}
use Rattle.deleting.proofs.DeleteRow.{delete-not-covered, delete-entry, delete-not-listed, delete-current, delete-done}
use Rattle.deleting.proofs.delete.Goals as goal

pub permits-requires-clause-acts_on : goal.permits-requires-clause-acts_on
unfolding number
permits-requires-clause-acts_on c = acts-on-key delete refl c.requires.names_key c.key_word.ensures

pub returns-then-not-permits : goal.returns-then-not-permits
unfolding code_number number
returns-then-not-permits c =
    delete-not-covered c.args.table.now c.records-read.ensures.bytes c.args.d.now c.key_word.ensures c.permits.ensures
    c.if-not-permits.true

pub returns-then-names_entry : goal.returns-then-names_entry
unfolding code_number number
returns-then-names_entry c =
    delete-entry c.args.table.now c.records-read.ensures.bytes c.args.d.now c.key_word.ensures c.permits.ensures
    c.if-not-permits.false c.names_entry.ensures c.if-names_entry.true

pub returns-then-not-is_listed : goal.returns-then-not-is_listed
unfolding code_number number
returns-then-not-is_listed c =
    delete-not-listed c.args.table.now c.records-read.ensures.bytes c.args.d.now c.key_word.ensures c.permits.ensures
    c.if-not-permits.false c.names_entry.ensures c.if-names_entry.false
    c.key_of-procedure.ensures c.is_listed.ensures c.if-not-is_listed.true

pub returns-then-names_current : goal.returns-then-names_current
unfolding code_number number
returns-then-names_current c =
    delete-current c.args.table.now c.records-read.ensures.bytes c.args.d.now c.key_word.ensures c.permits.ensures
    c.if-not-permits.false c.names_entry.ensures c.if-names_entry.false
    c.key_of-procedure.ensures c.is_listed.ensures c.if-not-is_listed.false
    c.names_current.ensures c.if-names_current.true

pub returns : goal.returns
unfolding number
returns c =
    delete-done c.args.table.now c.records-read.ensures.bytes c.args.d.now c.key_word.ensures c.permits.ensures
    c.if-not-permits.false c.names_entry.ensures c.if-names_entry.false
    c.key_of-procedure.ensures c.is_listed.ensures c.if-not-is_listed.false
    c.names_current.ensures c.if-names_current.false c.unlist.ensures
