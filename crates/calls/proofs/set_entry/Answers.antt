-- Each return is a place in the row; the entry slot of a sound table holds a key, so there is room for another.
-- The returns in order: 33; 66 33; done.
use Rattle.rules.specs.Capabilities.{number}
use Rattle.rules.specs.Messages.{key_word}
use Rattle.rules.specs.Answers.{code_number}
use Rattle.storing.proofs.Chain.{start, put-ready, put-after}
use Rattle.calls.proofs.OnePut.{entry-room}
use Rattle.calls.proofs.SetEntryRow.{set-entry-not-covered, set-entry-not-listed, set-entry-done}
use Rattle.calls.proofs.set_entry.Goals as goal

pub returns-then-not-index_in_range : goal.returns-then-not-index_in_range
unfolding code_number number
returns-then-not-index_in_range c =
    set-entry-not-covered c.args.table.now c.records-read.ensures.bytes c.args.d.now c.index_in_range.ensures
    c.if-not-index_in_range.true

pub returns-then-not-is_listed : goal.returns-then-not-is_listed
unfolding code_number number
returns-then-not-is_listed c =
    set-entry-not-listed c.args.table.now c.records-read.ensures.bytes c.args.d.now c.index_in_range.ensures
    c.if-not-index_in_range.false c.key_of.ensures c.is_listed.ensures c.if-not-is_listed.true

pub put-requires : goal.put-requires
put-requires c =
    put-ready (start c.args.table.now) c.entry_slot.ensures c.key_word.ensures
    (entry-room c.args.table.now c.requires.sound_table (key_word c.args.d.now))

pub returns : goal.returns
unfolding number
returns c =
    set-entry-done c.args.table.now c.records-read.ensures.bytes c.args.d.now c.index_in_range.ensures
    c.if-not-index_in_range.false c.key_of.ensures c.is_listed.ensures c.if-not-is_listed.false
    (put-after (start c.args.table.now) c.entry_slot.ensures c.key_word.ensures c.put.ensures)
