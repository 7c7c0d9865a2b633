-- The loop's invariant is `StoringKinds`: the types from an index on are left to store.
use Rattle.rules.specs.Words.{num}
use Rattle.procedure_records.proofs.AllTypes.{StoringKinds}
use Rattle.procedure_records.proofs.put_kinds.Given as goal

abbrev pub invariant-loop-kind : goal.invariant-loop-kind
invariant-loop-kind l = StoringKinds l.initial.table l.table (num l.procedure) l.d l.counts l.kind-index
