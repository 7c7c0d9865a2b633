-- Write's row: each return of the code is a place in it.
use Rattle.std.proofs.Common.{ℕ, Ok, ◌/◌, ◌≤◌, ◌<◌, ◌≡◌, sym, ap, ◌∙◌, Bool, true, false, length, lt-ltb, le-ltb}
use Rattle.rules.specs.Words.{Bytes, word_bytes, num}
use Rattle.rules.specs.Table.{record_size, put, room, store}
use Rattle.rules.specs.KernelStorage.{in_kernel_storage}
use Rattle.rules.specs.Capabilities.{write, number}
use Rattle.rules.specs.Messages.{write_address, write_value}
use Rattle.rules.specs.Answers.{x33, e7, code_number, ◌then◌, outcome}
use Rattle.rules.specs.Calls.{no_room, write_row, write_effect}
use Rattle.rules.specs.Source.{refused_reply, reply_of, Reply}
use Rattle.rules.specs.declared.Success.TheVariants.{Done}
use Rattle.words.specs.Words.{Holds}
use Rattle.storing.specs.Storing.{Became}
use Rattle.storing.specs.declared.table.Table.{Table}
use Rattle.storing.proofs.Chain.{start, put-after}
use Rattle.results.specs.Results.{Leaves}
use Rattle.acting.specs.Acting.{Permits}
use Rattle.acting.proofs.Permission.{not-permitted, permitted}
use Rattle.results.proofs.Rows.{refusal, leaves, becomes, refuses, passes, ends}

-- the records that the table needs afterwards
module _ (t d : Bytes) {x v : Bytes} (a : Holds word_bytes x (write_address d)) (b : Holds word_bytes v (write_value d))
    {n : ℕ} (c : n ≡ length (put (store t) (num x) (num v))) where
  needs-room : n ≡ length (put (store t) (write_address d) (write_value d))
  needs-room = rw (a.number, b.number) at c

  has_room : n ≤ length t / record_size → no_room (room t) (put (store t) (write_address d) (write_value d)) ≡ false
  unfolding no_room room
  has_room l = le-ltb (room t) (length (put (store t) (write_address d) (write_value d))) (rw (← needs-room) l)

  full : length t / record_size < n → no_room (room t) (put (store t) (write_address d) (write_value d)) ≡ true
  unfolding no_room room
  full l = lt-ltb (length t / record_size) (length (put (store t) (write_address d) (write_value d))) (rw (← needs-room) l)

-- u is what was read: the table's bytes
module _ (table : Table) {u : Bytes} (same : u ≡ table.bytes.now) (d : Bytes) {x v : Bytes}
    (a : Holds word_bytes x (write_address d)) (b : Holds word_bytes v (write_value d))
    {p : Bool} (e : Permits u d (number write) (num x) p) where
  abbrev t : Bytes
  t = table.bytes.now

  abbrev row : Reply → Table → Type 0
  row r after = Leaves (outcome t (write_row (room t) (store t) d then write_effect (store t) d)) r table after

  permits : Permits t d (number write) (num x) p
  permits = rw same at e

  pub write-not-covered : p ≡ false → row (refused_reply (code_number x33)) table
  unfolding write_row
  write-not-covered q = rw (not-permitted t d write (write_address d) a permits q) (leaves table (refusal t x33))

  module _ (q : p ≡ true) {i : Bool} (g : i ≡ in_kernel_storage (num x)) where
    inside : {z : Bool} → i ≡ z → in_kernel_storage (write_address d) ≡ z
    inside h = ap in_kernel_storage (sym a.number) ∙ sym g ∙ h

    pub write-into-kernel : i ≡ true → row (refused_reply (code_number x33)) table
    unfolding write_row
    write-into-kernel h =
        rw (permitted t d write (write_address d) a permits q, refuses (inside h)) (leaves table (refusal t x33))

    module _ (h : i ≡ false) {n : ℕ} (c : n ≡ length (put (store u) (num x) (num v))) where
      needed : n ≡ length (put (store t) (num x) (num v))
      needed = rw same at c

      pub write-no-room : length u / record_size < n → row (refused_reply (code_number e7)) table
      unfolding write_row
      write-no-room l =
          rw (permitted t d write (write_address d) a permits q, passes (inside h), refuses (full t d a b needed (rw same at l)))
          (leaves table (refusal t e7))

      pub write_done : n ≤ length u / record_size → {after : Table} → Became table after (put (store t) (num x) (num v))
          → row (Ok Done) after
      unfolding write_row reply_of
      write_done l k =
          rw (
            permitted t d write (write_address d) a permits q,
            passes (inside h),
            passes (has_room t d a b needed (rw same at l)),
            ends,
          )
          (becomes _ (put-after (start table) a b k))
