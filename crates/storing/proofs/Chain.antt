-- Several calls on one table, one after the other. A caller keeps `Became before now s`: it gives what the next call requires,
-- and what that call promises of the table that it was given is again `Became` of the one that the caller began with.
use Rattle.std.proofs.Common.{ℕ, ◌*◌, ◌≤◌, arith, ◌≡◌, refl, ap, ◌∙◌, ◌≢◌, length}
use Rattle.rules.specs.Words.{Bytes, num}
use Rattle.rules.specs.Table.{Store, Ascending, bytes, get, put, room, store}
use Rattle.laws.proofs.Stores.{put-zero-length, put-no-longer}
use Rattle.laws.proofs.TableRecords.{formed, formed-within}
use Rattle.words.specs.Words.{Holds}
use Rattle.storing.specs.Storing.{Became}
use Rattle.storing.specs.declared.table.Table.{Table}

-- a table as it came
pub start : (table : Table) → Became table table (store table.bytes.now)
start table = record { lent = refl; long = refl; stored = refl }

module _ {before now : Table} {s : Store} (h : Became before now s) where
  pub ascends : Ascending 0 s
  ascends = rw (← h.stored) (formed now.bytes.now now.form).ascends

  pub counted : now.used ≡ length s
  counted = now.count ∙ ap length h.stored

  pub within : 64 * length s ≤ length before.bytes.now
  within = omega (arith, formed-within now.bytes.now now.form, ap length h.stored, h.long)

  -- the bytes that are left, which the length and the store make
  pub written : now.bytes.now ≡ bytes (length before.bytes.now) s
  written = rw (← h.stored, ← h.long) (formed now.bytes.now now.form).layout

  -- what `put`, or any other function on the table that was reached, leaves, f being what it does to a store
  pub after : (f : Store → Store) {later : Table} → Became now later (f (store now.bytes.now)) → Became before later (f s)
  after f e = record { lent = e.lent ∙ h.lent; long = e.long ∙ h.long; stored = e.stored ∙ ap f h.stored }

  -- for callers: room for what `put` leaves. The value zero needs none, nor does a key that is present.
  pub room-for-none : (k : ℕ) → 64 * length (put s k 0) ≤ length before.bytes.now
  room-for-none k = omega (arith, put-zero-length s k, within)

  pub room-for-present : (k v : ℕ) → get s k ≢ 0 → 64 * length (put s k v) ≤ length before.bytes.now
  room-for-present k v present = omega (arith, put-no-longer 0 s k v ascends present, within)

  -- both sides of a `put`, by what the key and the value stand for
  module _ {k v : ℕ} {key value : Bytes} (slot : Holds 32 key k) (word : Holds 32 value v) where
    pub put-ready : 64 * length (put s k v) ≤ length before.bytes.now
        → length (put (store now.bytes.now) (num key) (num value)) ≤ room now.bytes.now
    unfolding room
    put-ready r = rw (h.stored, slot.number, word.number) (omega (arith, r, h.long))

    pub put-after : {later : Table} → Became now later (put (store now.bytes.now) (num key) (num value)) → Became before later (put s k v)
    put-after e = rw (slot.number, word.number) at (after (λ (x : Store). put x (num key) (num value)) e)
