-- Delete's row: each return of the code is a place in it.
use Rattle.std.proofs.Common.{◌≡◌, sym, ap, ◌∙◌, Ok, Bool, true, false, not, eqb}
use Rattle.rules.specs.Words.{Bytes, word_bytes, key_bytes, num}
use Rattle.rules.specs.Table.{store}
use Rattle.rules.specs.Capabilities.{delete, number}
use Rattle.rules.specs.Procedures.{current, entry_key, listed}
use Rattle.rules.specs.Messages.{key_word}
use Rattle.rules.specs.Answers.{x33, e2, x6633, e3, code_number, ◌then◌, outcome}
use Rattle.rules.specs.Calls.{after_delete, delete_row, delete_effect}
use Rattle.rules.specs.Source.{refused_reply, reply_of, Reply}
use Rattle.rules.specs.declared.Success.TheVariants.{Done}
use Rattle.words.specs.Words.{Holds}
use Rattle.storing.specs.Storing.{Became}
use Rattle.storing.specs.declared.table.Table.{Table}
use Rattle.results.specs.Results.{Leaves}
use Rattle.acting.specs.Acting.{Permits}
use Rattle.acting.proofs.Permission.{listed-judged, not-permitted, permitted}
use Rattle.results.proofs.Rows.{refusal, leaves, becomes, refuses, passes, ends}

-- u is what was read: the table's bytes
module _ (table : Table) {u : Bytes} (same : u ≡ table.bytes.now) (d : Bytes) {x : Bytes}
    (named : Holds word_bytes x (key_word d)) {p : Bool} (e : Permits u d (number delete) (num x) p) where
  abbrev t : Bytes
  t = table.bytes.now

  abbrev row : Reply → Table → Type 0
  row r after = Leaves (outcome t (delete_row (store t) d then delete_effect (store t) d)) r table after

  permits : Permits t d (number delete) (num x) p
  permits = rw same at e

  pub delete-not-covered : p ≡ false → row (refused_reply (code_number x33)) table
  unfolding delete_row
  delete-not-covered q = rw (not-permitted t d delete (key_word d) named permits q) (leaves table (refusal t x33))

  module _ (q : p ≡ true) {i : Bool} (g : i ≡ eqb (key_word d) (entry_key (store u))) where
    is-entry : {b : Bool} → i ≡ b → eqb (key_word d) (entry_key (store t)) ≡ b
    is-entry z = sym (rw same at g) ∙ z

    pub delete-entry : i ≡ true → row (refused_reply (code_number e2)) table
    unfolding delete_row
    delete-entry z = rw (permitted t d delete (key_word d) named permits q, refuses (is-entry z)) (leaves table (refusal t e2))

    module _ (z : i ≡ false) {key : Bytes} (k : Holds key_bytes key (key_word d))
        {l : Bool} (h : l ≡ listed (store u) (num key)) where
      is-listed : {b : Bool} → l ≡ b → not (listed (store t) (key_word d)) ≡ not b
      is-listed y = ap not (listed-judged t k (rw same at h) y)

      pub delete-not-listed : l ≡ false → row (refused_reply (code_number x6633)) table
      unfolding delete_row
      delete-not-listed y =
          rw (permitted t d delete (key_word d) named permits q, passes (is-entry z), refuses (is-listed y))
          (leaves table (refusal t x6633))

      module _ (y : l ≡ true) {c : Bool} (m : c ≡ eqb (key_word d) (current (store u))) where
        is-current : {b : Bool} → c ≡ b → eqb (key_word d) (current (store t)) ≡ b
        is-current w = sym (rw same at m) ∙ w

        pub delete-current : c ≡ true → row (refused_reply (code_number e3)) table
        unfolding delete_row
        delete-current w =
            rw (
              permitted t d delete (key_word d) named permits q,
              passes (is-entry z),
              passes (is-listed y),
              refuses (is-current w),
            )
            (leaves table (refusal t e3))

        pub delete-done : c ≡ false → {after : Table} → Became table after (after_delete (store t) (num key))
            → row (Ok Done) after
        unfolding delete_row reply_of
        delete-done w s =
            rw (
              permitted t d delete (key_word d) named permits q,
              passes (is-entry z),
              passes (is-listed y),
              passes (is-current w),
              ends,
            )
            (becomes _ (rw k.number at s))
