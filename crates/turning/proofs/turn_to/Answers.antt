-- Each return is a place in the row; the current slot of a sound table holds a key, so there is room for another.
-- The returns in order: 66 33; done.
use Rattle.rules.specs.Answers.{code_number}
use Rattle.storing.proofs.Chain.{start, put-ready, put-after}
use Rattle.calls.proofs.OnePut.{current-room}
use Rattle.turning.proofs.TurnRow.{turn-not-listed, turn-done}
use Rattle.turning.proofs.turn_to.Goals as goal

pub returns-then-not-is_listed : goal.returns-then-not-is_listed
unfolding code_number
returns-then-not-is_listed c =
    turn-not-listed c.args.table.now c.records.ensures.bytes c.args.key.now c.is_listed.ensures c.if-not-is_listed.true

pub put-requires : goal.put-requires
put-requires c =
    put-ready (start c.args.table.now) c.current_slot.ensures c.right_word.ensures (current-room c.args.table.now c.requires _)

pub returns : goal.returns
returns c =
    turn-done c.args.table.now c.records.ensures.bytes c.args.key.now c.is_listed.ensures c.if-not-is_listed.false
    (put-after (start c.args.table.now) c.current_slot.ensures c.right_word.ensures c.put.ensures)
