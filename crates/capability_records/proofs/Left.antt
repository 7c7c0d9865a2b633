-- Records that are stored one after the other, by several calls on one table: `Left` says which are left to store, and what the
-- store is once they are. It gives what the next call requires; behind that call fewer are left.
use Rattle.std.proofs.Common.{ℕ, ◌≤◌, ◌≡◌, refl, sym, ap, ◌∙◌, List, [], ◌∷◌, ◌++◌, length}
use Rattle.rules.specs.Words.{Bytes, num}
use Rattle.rules.specs.Table.{Store, Record, ◌holds◌, put, puts, room, store}
use Rattle.laws.proofs.Stores.{puts-append}
use Rattle.words.specs.Words.{Holds}
use Rattle.storing.specs.Storing.{Became}
use Rattle.storing.specs.declared.table.Table.{Table}
use Rattle.capability_records.specs.CapabilityRecords.{Roomy, Takes}

-- room for the first records of a list, then for the others
roomy-front : (rooms : ℕ) (s : Store) (a b : List Record) → Roomy rooms s (a ++ b) → Roomy rooms s a
roomy-front rooms s [] b h = tt
roomy-front rooms s (r ∷ a) b h = (h.0, roomy-front rooms (put s r.key r.value) a b h.1)

roomy-back : (rooms : ℕ) (s : Store) (a b : List Record) → Roomy rooms s (a ++ b) → Roomy rooms (puts s a) b
unfolding puts
roomy-back rooms s [] b h = h
roomy-back rooms s (r ∷ a) b h = roomy-back rooms (put s r.key r.value) a b h.1

pub record Left (before now : Table) (rest : List Record) (goal : Store) : Type 0 where
  pub lent : now.bytes.ghost_name ≡ before.bytes.ghost_name
  pub long : length now.bytes.now ≡ length before.bytes.now
  pub takes : Takes now.bytes.now rest
  pub reaches : puts (store now.bytes.now) rest ≡ goal

-- all are left, and none is
pub left-all : {table : Table} {rs : List Record} → Takes table.bytes.now rs
    → Left table table rs (puts (store table.bytes.now) rs)
left-all h = record { lent = refl; long = refl; takes = h; reaches = refl }

pub left-none : {before now : Table} {goal : Store} → Left before now [] goal → Became before now goal
unfolding puts
left-none l = record { lent = l.lent; long = l.long; stored = l.reaches }

-- the records a are stored next
module _ {before now : Table} {rest : List Record} {goal : Store} (l : Left before now rest goal)
    (a b : List Record) (e : rest ≡ a ++ b) where
  roomy : Roomy (room now.bytes.now) (store now.bytes.now) (a ++ b)
  roomy = rw e at l.takes

  pub left-takes : Takes now.bytes.now a
  left-takes = roomy-front (room now.bytes.now) (store now.bytes.now) a b roomy

  pub left_after : {later : Table} → Became now later (puts (store now.bytes.now) a) → Left before later b goal
  unfolding room
  left_after s =
      record {
        lent = s.lent ∙ l.lent;
        long = s.long ∙ l.long;
        takes = rw (s.stored, s.long) (roomy-back (room now.bytes.now) (store now.bytes.now) a b roomy);
        reaches =
            ap (λ (x : Store). puts x b) s.stored
            ∙ sym (puts-append (store now.bytes.now) a b)
            ∙ ap (puts (store now.bytes.now)) (sym e)
            ∙ l.reaches;
      }

-- all that are left are stored next
pub left-whole : {before now later : Table} {rest : List Record} {goal : Store} → Left before now rest goal
    → Became now later (puts (store now.bytes.now) rest) → Became before later goal
left-whole l s = record { lent = s.lent ∙ l.lent; long = s.long ∙ l.long; stored = s.stored ∙ l.reaches }

-- one record is stored next, with `put`
module _ {before now : Table} {k v : ℕ} {rest more : List Record} {goal : Store} {key value : Bytes}
    (l : Left before now rest goal) (e : rest ≡ k holds v ∷ more) (slot : Holds 32 key k) (word : Holds 32 value v) where
  pub left-ready : length (put (store now.bytes.now) (num key) (num value)) ≤ room now.bytes.now
  left-ready = rw (slot.number, word.number) (left-takes l (k holds v ∷ []) more e).0

  pub left-put : {later : Table} → Became now later (put (store now.bytes.now) (num key) (num value))
      → Left before later more goal
  unfolding puts
  left-put s = left_after l (k holds v ∷ []) more e (rw (slot.number, word.number) at s)
