-- Turn's row where the table is sound: each return of the code is a place in it.
use Rattle.std.proofs.Common.{◌≡◌, sym, ap, ◌∙◌, Ok, Bool, true, false, not}
use Rattle.rules.specs.Words.{Bytes, num}
use Rattle.rules.specs.Table.{put, store}
use Rattle.rules.specs.KernelStorage.{current_slot}
use Rattle.rules.specs.Procedures.{listed}
use Rattle.rules.specs.Answers.{x6633, code_number, outcome}
use Rattle.rules.specs.Calls.{turn_row}
use Rattle.rules.specs.Source.{refused_reply, reply_of, Reply}
use Rattle.rules.specs.declared.Success.TheVariants.{Done}
use Rattle.storing.specs.Storing.{Became}
use Rattle.storing.specs.declared.table.Table.{Table}
use Rattle.results.specs.Results.{Leaves}
use Rattle.results.proofs.Rows.{refusal, leaves, becomes, refuses, passes, ends}
use Rattle.turning.specs.Turning.{turn_on_sound}

-- u is what was read: the table's bytes
module _ (table : Table) {u : Bytes} (same : u ≡ table.bytes.now) (k : Bytes) {l : Bool} (e : l ≡ listed (store u) (num k)) where
  abbrev t : Bytes
  t = table.bytes.now

  abbrev row : Reply → Table → Type 0
  row r after = Leaves (outcome t (turn_on_sound t k)) r table after

  is-listed : {b : Bool} → l ≡ b → not (listed (store t) (num k)) ≡ not b
  is-listed q = ap not (sym (rw same at e) ∙ q)

  pub turn-not-listed : l ≡ false → row (refused_reply (code_number x6633)) table
  unfolding turn_row
  turn-not-listed q = rw (refuses (is-listed q)) (leaves table (refusal t x6633))

  pub turn-done : l ≡ true → {after : Table} → Became table after (put (store t) current_slot (num k)) → row (Ok Done) after
  unfolding turn_row reply_of
  turn-done q h = rw (passes (is-listed q), ends) (becomes _ h)
