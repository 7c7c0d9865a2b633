-- A listed key is taken off the list: its index is its place, which `small` gives whole, and what is stored after the move is
-- the rest of Delete's effect.
use Rattle.std.proofs.Common.{ℕ, ◌-◌, ◌≤◌, min, arith, ◌≡◌, refl, length, replicate}
use Rattle.rules.specs.Words.{Bytes, num}
use Rattle.rules.specs.Table.{Store, get, put, puts, room, store}
use Rattle.rules.specs.KernelStorage.{index_slot, length_slot, place_slot}
use Rattle.rules.specs.Procedures.{index_of, list_length, InList, listed}
use Rattle.rules.specs.Calls.{without_procedure, after_delete}
use Rattle.laws.proofs.Bools.{tests-true}
use Rattle.laws.proofs.Numerals.{num-zeros}
use Rattle.laws.proofs.Procedures.{Good, list-within}
use Rattle.laws.proofs.TableDecides.{sound_table-good}
use Rattle.words.specs.Words.{Holds, small_limit}
use Rattle.slots.specs.Slots.{KeyOf}
use Rattle.storing.specs.Storing.{Became}
use Rattle.storing.specs.declared.table.Table.{Table}
use Rattle.storing.proofs.Chain.{room-for-none, put-ready, put-after, after}
use Rattle.unlisting.specs.Unlisting.{Unlistable, Movable, last_moved}
use Rattle.unlisting.proofs.Moving.{length-room}

abbrev zeros : Bytes
zeros = replicate 32 0

zero_word : Holds 32 zeros 0
zero_word = record { size = refl; number = num-zeros 32 }

module _ (t : Bytes) {p : ℕ} (u : Unlistable t p) where
  good : Good (room t) (store t)
  good = (sound_table-good t u.sound).good

  freed-in : InList (store t) (index_of (store t) p)
  unfolding listed
  freed-in = let test = u.is_listed in search tests-true

  pub whole-place : {i : ℕ} → i ≡ min (get (store t) (index_slot p)) small_limit → i ≡ index_of (store t) p
  unfolding index_of
  whole-place e = omega (arith, freed-in.last, list-within good)

-- r is what was read: the table's bytes
module _ (table : Table) {p : ℕ} (u : Unlistable table.bytes.now p) {r : Bytes} (same : r ≡ table.bytes.now) {places freed : ℕ}
    (l : places ≡ list_length (store r)) (q : freed ≡ index_of (store r) p) where
  abbrev t : Bytes
  t = table.bytes.now

  abbrev s : Store
  s = store t

  all : places ≡ list_length s
  all = rw same at l

  place : freed ≡ index_of s p
  place = rw same at q

  pub movable : Movable t places freed
  movable = record { sound = u.sound; all = all; in_list = rw place (freed-in t u) }

  pub some-place : 1 ≤ places
  some-place = omega (arith, all, (good t u).sound.at_least_one)

  -- the lowered length, the cleared place, and the procedure's records, one after the other
  module _ {moved : Table} (e : Became table moved (last_moved s freed)) {length_key shorter : Bytes}
      (a : KeyOf length_slot length_key) (b : Holds 32 shorter (places - 1)) where
    pub length-ready : length (put (store moved.bytes.now) (num length_key) (num shorter)) ≤ room moved.bytes.now
    length-ready = put-ready e a b (length-room table movable e (places - 1))

    module _ {lower : Table} (f : Became moved lower (put (store moved.bytes.now) (num length_key) (num shorter)))
        {last_place : Bytes} (c : KeyOf (place_slot places) last_place) where
      lowered : Became table lower (put (last_moved s freed) length_slot (places - 1))
      lowered = put-after e a b f

      pub last-ready : length (put (store lower.bytes.now) (num last_place) (num zeros)) ≤ room lower.bytes.now
      last-ready = put-ready lowered c zero_word (room-for-none lowered (place_slot places))

      module _ {clear : Table} (g : Became lower clear (put (store lower.bytes.now) (num last_place) (num zeros))) where
        cleared : Became table clear (put (put (last_moved s freed) length_slot (places - 1)) (place_slot places) 0)
        cleared = put-after lowered c zero_word g

        pub unlisted : {end : Table} → Became clear end (without_procedure p (store clear.bytes.now))
            → Became table end (after_delete s p)
        unfolding after_delete puts last_moved
        unlisted h = rw (all, place) at (after cleared (without_procedure p) h)
