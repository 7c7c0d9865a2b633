-- Set Entry's row: each return of the code is a place in it.
use Rattle.std.proofs.Common.{◌≡◌, refl, ap, Ok, Bool, true, false, not}
use Rattle.rules.specs.Words.{Bytes, key_bytes, num}
use Rattle.rules.specs.Table.{put, store}
use Rattle.rules.specs.KernelStorage.{entry_slot}
use Rattle.rules.specs.Capabilities.{set_entry, number}
use Rattle.rules.specs.Procedures.{listed}
use Rattle.rules.specs.Messages.{key_word}
use Rattle.rules.specs.Answers.{x33, x6633, code_number, ◌then◌, outcome}
use Rattle.rules.specs.Calls.{index_out_of_range, set_entry_row, set_entry_effect}
use Rattle.rules.specs.Source.{OfType, refused_reply, reply_of, Reply}
use Rattle.rules.specs.declared.Success.TheVariants.{Done}
use Rattle.words.specs.Words.{Holds}
use Rattle.storing.specs.Storing.{Became}
use Rattle.storing.specs.declared.table.Table.{Table}
use Rattle.results.specs.Results.{Leaves}
use Rattle.acting.proofs.Permission.{listed-judged}
use Rattle.results.proofs.Rows.{refusal, leaves, becomes, refuses, passes, ends, denied}

-- u is what was read: the table's bytes
module _ (table : Table) {u : Bytes} (same : u ≡ table.bytes.now) (d : Bytes) {p : Bool}
    (e : OfType (number set_entry) (λ k. p ≡ not (index_out_of_range (store u) d k))) where
  abbrev t : Bytes
  t = table.bytes.now

  abbrev row : Reply → Table → Type 0
  row r after = Leaves (outcome t (set_entry_row (store t) d then set_entry_effect (store t) d)) r table after

  in_range : p ≡ not (index_out_of_range (store t) d set_entry)
  in_range = rw same at (e set_entry refl)

  pub set-entry-not-covered : p ≡ false → row (refused_reply (code_number x33)) table
  unfolding set_entry_row
  set-entry-not-covered q = rw (refuses (denied in_range q)) (leaves table (refusal t x33))

  module _ (q : p ≡ true) {key : Bytes} (k : Holds key_bytes key (key_word d))
      {l : Bool} (g : l ≡ listed (store u) (num key)) where
    is-listed : {b : Bool} → l ≡ b → not (listed (store t) (key_word d)) ≡ not b
    is-listed z = ap not (listed-judged t k (rw same at g) z)

    pub set-entry-not-listed : l ≡ false → row (refused_reply (code_number x6633)) table
    unfolding set_entry_row
    set-entry-not-listed z = rw (passes (denied in_range q), refuses (is-listed z)) (leaves table (refusal t x6633))

    pub set-entry-done : l ≡ true → {after : Table} → Became table after (put (store t) entry_slot (key_word d))
        → row (Ok Done) after
    unfolding set_entry_row reply_of
    set-entry-done z h = rw (passes (denied in_range q), passes (is-listed z), ends) (becomes _ h)
