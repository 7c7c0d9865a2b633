-- The last key moves into the freed place. Every slot that is stored at is present, since each place of a sound list holds a key
-- and each listed key has an index: so the table needs no more room.
use Rattle.std.proofs.Common.{ℕ, ◌*◌, ◌≤◌, arith, ◌≡◌, ap, ◌∙◌, ◌≢◌, length}
use Rattle.rules.specs.Words.{Bytes, num}
use Rattle.rules.specs.Table.{record_size, Store, get, put, room, store}
use Rattle.rules.specs.KernelStorage.{index_slot, length_slot, place_slot}
use Rattle.rules.specs.Procedures.{list_length, key_at, InList}
use Rattle.rules.specs.Sound.{IsKey}
use Rattle.laws.proofs.Stores.{put-ascending, put-present}
use Rattle.laws.proofs.Procedures.{Good, length-present, place-present, index-present}
use Rattle.laws.proofs.TableDecides.{sound_table-good}
use Rattle.words.specs.Words.{Holds}
use Rattle.slots.specs.Slots.{KeyOf}
use Rattle.storing.specs.Storing.{Became}
use Rattle.storing.specs.declared.table.Table.{Table}
use Rattle.storing.proofs.Chain.{start, room-for-present, put-ready, put-after}
use Rattle.holding.specs.Holding.{WordOf}
use Rattle.key_words.specs.KeyWords.{KeyPart}
use Rattle.key_words.proofs.KeyWords.{key-number}
use Rattle.listing.proofs.Lookups.{at_slot}
use Rattle.unlisting.specs.Unlisting.{Movable, last_moved}

module _ (table : Table) {places freed : ℕ} (m : Movable table.bytes.now places freed) where
  abbrev t : Bytes
  t = table.bytes.now

  abbrev s : Store
  s = store t

  abbrev moved : ℕ
  moved = key_at s (list_length s)

  good : Good (room t) s
  good = (sound_table-good t m.sound).good

  last-in : InList s (list_length s)
  last-in = record { first = good.sound.at_least_one; last = omega arith }

  key : IsKey moved
  key = good.sound.keys (list_length s) last-in

  -- what is present stays so when the last key is stored at the freed place, and when its index is
  abbrev key_moved : Store
  key_moved = put s (place_slot freed) moved

  key-stays : (k : ℕ) → get s k ≢ 0 → get key_moved k ≢ 0
  key-stays k = put-present s (place_slot freed) moved k good.ascending (λ z. omega (arith, key.non_zero))

  stays : (k : ℕ) → get s k ≢ 0 → get (last_moved s freed) k ≢ 0
  unfolding last_moved
  stays k present =
      put-present key_moved (index_slot moved) freed k (put-ascending 0 s (place_slot freed) moved (omega arith) good.ascending)
      (λ z. omega (arith, m.in_list.first)) (key-stays k present)

  -- the room for both stores, and for another length of the list
  freed-room : record_size * length key_moved ≤ length t
  freed-room = room-for-present (start table) (place_slot freed) moved (place-present good.sound freed m.in_list)

  index-room : {now : Table} → Became table now key_moved
      → record_size * length (put key_moved (index_slot moved) freed) ≤ length t
  index-room h =
      room-for-present h (index_slot moved) freed
      (key-stays (index_slot moved) (index-present good.sound (list_length s) last-in))

  pub length-room : {now : Table} → Became table now (last_moved s freed) → (n : ℕ)
      → record_size * length (put (last_moved s freed) length_slot n) ≤ length t
  length-room h n = room-for-present h length_slot n (stays length_slot (length-present good.sound))

  -- the first store, by what stands at the last place of what was read, which is the table's bytes
  module _ {u : Bytes} (same : u ≡ t) {last_slot last freed_slot : Bytes} (a : KeyOf (place_slot places) last_slot)
      (b : WordOf (get (store u) (num last_slot)) last) (c : KeyOf (place_slot freed) freed_slot) where
    last_word : Holds 32 last moved
    unfolding key_at
    last_word = record { size = b.size; number = at_slot s a (rw same at b) ∙ ap (key_at s) m.all }

    pub key-ready : length (put s (num freed_slot) (num last)) ≤ room t
    key-ready = put-ready (start table) c last_word freed-room

    -- and the second, at the index of the key that is the word's last 24 bytes
    module _ {now : Table} (e : Became table now (put s (num freed_slot) (num last)))
        {part moved_slot index : Bytes} (d : KeyPart (num last) part)
        (k : KeyOf (index_slot (num part)) moved_slot) (i : Holds 32 index freed) where
      key-stored : Became table now key_moved
      key-stored = put-after (start table) c last_word e

      part-key : num part ≡ moved
      part-key = key-number (rw last_word.number at d) key.fits

      moved-slot : KeyOf (index_slot moved) moved_slot
      moved-slot = rw part-key at k

      pub index-ready : length (put (store now.bytes.now) (num moved_slot) (num index)) ≤ room now.bytes.now
      index-ready = put-ready key-stored moved-slot i (index-room key-stored)

      pub both_stored : {after : Table} → Became now after (put (store now.bytes.now) (num moved_slot) (num index))
          → Became table after (last_moved s freed)
      unfolding last_moved
      both_stored f = put-after key-stored moved-slot i f
