-- The loop's invariant is `StoringKinds`: the types from an index on are left to store.
use Rattle.std.proofs.Common.{arith}
use Rattle.procedure_records.proofs.AllTypes.{type-at, kinds-room, kinds-kind, kinds-turn, kinds-end}
use Rattle.procedure_records.proofs.put_kinds.Goals as goal

pub put-requires : goal.put-requires
put-requires c =
    kinds-room c.loop-kind.invariant (omega arith) (type-at _ (omega arith)) c.from.ensures c.count_slot.ensures c.number_word.ensures

pub put_kind-requires : goal.put_kind-requires
put_kind-requires c =
    kinds-kind c.loop-kind.invariant (omega arith) (type-at _ (omega arith)) c.from.ensures c.count_slot.ensures
    c.number_word.ensures c.put.ensures

pub loop-kind-preserved : goal.loop-kind-preserved
loop-kind-preserved c =
    kinds-turn c.loop-kind.invariant (omega arith) (type-at _ (omega arith)) c.from.ensures c.count_slot.ensures
    c.number_word.ensures c.put.ensures c.put_kind.ensures

pub returns : goal.returns
returns c = kinds-end c.loop-kind.invariant (omega arith)
