-- A procedure's records, put with two calls: its address and its index, and then those of its capabilities.
use Rattle.std.proofs.Common.{ℕ, refl}
use Rattle.rules.specs.Words.{Bytes}
use Rattle.rules.specs.Table.{puts, store}
use Rattle.rules.specs.Capabilities.{kinds}
use Rattle.rules.specs.Messages.{requests}
use Rattle.rules.specs.Calls.{kind_records}
use Rattle.storing.specs.Storing.{Became}
use Rattle.storing.specs.declared.table.Table.{Table}
use Rattle.capability_records.proofs.Left.{Left, left-all, left_after, left-whole}
use Rattle.procedure_records.specs.ProcedureRecords.{naming_records, procedure_records, KindsNeeds, ProcedureNeeds}

module _ {before named : Table} {place p a : ℕ} {d : Bytes} (need : ProcedureNeeds before.bytes.now place p a d)
    (s : Became before named (puts (store before.bytes.now) (naming_records place p a))) where
  behind-own : Left before named (kind_records p (requests d) kinds)
      (puts (store before.bytes.now) (procedure_records place p a (requests d)))
  behind-own = left_after (left-all need.takes) (naming_records place p a) (kind_records p (requests d) kinds) refl s

  pub kinds-needs : KindsNeeds named.bytes.now p d
  kinds-needs = record { well_formed = need.well_formed; few = need.few; takes = behind-own.takes }

  pub procedure-put : {later : Table} → Became named later (puts (store named.bytes.now) (kind_records p (requests d) kinds))
      → Became before later (puts (store before.bytes.now) (procedure_records place p a (requests d)))
  procedure-put = left-whole behind-own
