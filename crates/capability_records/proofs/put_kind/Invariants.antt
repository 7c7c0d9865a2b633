-- The loop's invariant is `StoringKind`: of the requests that are left those of the type are left to store.
use Rattle.rules.specs.Words.{num}
use Rattle.capability_records.proofs.Requested.{StoringKind}
use Rattle.capability_records.proofs.put_kind.Given as goal

abbrev pub invariant-loop-request : goal.invariant-loop-request
invariant-loop-request l = StoringKind l.initial.table l.table (num l.procedure) l.kind.0 l.count l.d l.i l.request-iterator
