-- The loop keeps `Walking`: what is left of the walk is its answer.
use Rattle.std.proofs.Common.{arith, rules}
use Rattle.blocks.proofs.Walking.{walk-starts, has-record, after_first, later-turns, later-stops, head-turns, head-stops, walk-done}
use Rattle.blocks.proofs.blocks_form.Goals as goal

pub loop-i-init : goal.loop-i-init
loop-i-init c = walk-starts c.requires c.first_record-first.ensures

pub continues-requires : goal.continues-requires
continues-requires c = has-record c.loop-i.invariant (search rules)

pub later-requires : goal.later-requires
later-requires c =
    let turn = c.loop-i in
    let after = after_first turn.invariant (search rules) c.continues.ensures c.if-continues.true in
    record { has_record = has-record turn.invariant (search rules); le_i = omega arith }

pub counted-count-requires : goal.counted-count-requires
counted-count-requires c = has-record c.loop-i.invariant (search rules)

pub loop-i-preserved-then-continues : goal.loop-i-preserved-then-continues
loop-i-preserved-then-continues c =
    let turn = c.loop-i in
    later-turns turn.invariant (search rules) c.continues.ensures c.if-continues.true c.later.ensures c.if-not-later.false
    c.counted-count.ensures

pub returns-then-not-later : goal.returns-then-not-later
returns-then-not-later c =
    let turn = c.loop-i in
    later-stops turn.invariant (search rules) c.continues.ensures c.if-continues.true c.later.ensures c.if-not-later.true

pub loop-i-preserved : goal.loop-i-preserved
loop-i-preserved c =
    let turn = c.loop-i in
    head-turns turn.invariant (search rules) c.continues.ensures c.if-continues.false c.head_rows.ensures c.if-not-head_rows.false

pub returns-then-not-head_rows : goal.returns-then-not-head_rows
returns-then-not-head_rows c =
    let turn = c.loop-i in
    head-stops turn.invariant (search rules) c.continues.ensures c.if-continues.false c.head_rows.ensures c.if-not-head_rows.true

pub returns : goal.returns
returns c = walk-done c.loop-i.invariant (search rules)
