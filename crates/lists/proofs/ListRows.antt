-- The records from the list length on, compared one by one with the row of keys; each that has its key leaves the rest of both.
use Rattle.std.proofs.Common.{ℕ, suc, ◌+◌, ◌*◌, ◌-◌, ◌≤◌, ◌<◌, min, arith, add-one, ◌≡◌, refl, sym, ap, ◌∙◌, List, [], ◌∷◌, Bool, true, false, ◌&&◌, eqb, ltb, length, drop, drop_of_length-le, eq-eqb, ne_eqb, lt-ltb, le-ltb, eqb-true}
use Rattle.rules.specs.Words.{Bytes, num, word_at}
use Rattle.rules.specs.Table.{get, store}
use Rattle.rules.specs.KernelStorage.{length_slot, place_slot, kernel_address_slot, current_slot, entry_slot}
use Rattle.rules.specs.Procedures.{list_length}
use Rattle.laws.proofs.TableRecords.{record-at, formed, formed-within}
use Rattle.words.specs.Words.{small_limit}
use Rattle.slots.specs.Slots.{KeyOf}
use Rattle.moves.specs.Moves.{WordPart}
use Rattle.finding.proofs.Places.{below_length}
use Rattle.walks.specs.Walks.{keys_from, keys_are, before_list, places_left, list_form}
use Rattle.walks.proofs.Behind.{record-holds}
use Rattle.finding.specs.declared.Records.{Records}
use Rattle.listing.proofs.Lookups.{few}

-- the records fit the table
pub within : (table : Records) → 64 * table.used ≤ length table.bytes.now
within table = omega (arith, formed-within table.bytes.now table.form, table.count)

-- one record, compared with the first key of a row
module _ (table : Records) (i : ℕ) (h : i < table.used) (k : ℕ) (ks : List ℕ) {r : Bool}
    (e : r ≡ eqb (word_at table.bytes.now (64 * i)) k) where
  one : keys_are (drop i (store table.bytes.now)) (k ∷ ks) ≡ (r && keys_are (drop (i + 1) (store table.bytes.now)) ks)
  unfolding keys_are
  one =
      let inside : i < length (store table.bytes.now) = omega (arith, table.count) in
      rw ((record-at table.bytes.now i inside).here, e, add-one)

  pub key-same : r ≡ true → keys_are (drop i (store table.bytes.now)) (k ∷ ks)
      ≡ keys_are (drop (i + 1) (store table.bytes.now)) ks
  key-same q = one ∙ rw q

  pub key-other : r ≡ false → keys_are (drop i (store table.bytes.now)) (k ∷ ks) ≡ false
  key-other q = one ∙ rw q

-- compared with a slot's key
slot_same : (x : ℕ) {slot : ℕ} {key : Bytes} → KeyOf slot key → {r : Bool} → r ≡ eqb x (num key) → r ≡ eqb x slot
slot_same x l e = e ∙ ap (eqb x) l.number

-- behind the last record there is none
pub row_ends : (table : Records) (i : ℕ) → table.used ≤ i → keys_are (drop i (store table.bytes.now)) [] ≡ true
unfolding keys_are
row_ends table i h =
    let past : length (store table.bytes.now) ≤ i = omega (arith, table.count) in
    rw (drop_of_length-le (store table.bytes.now) past)

-- the three fixed slots
abbrev pub Fixed : (t : Bytes) → (i : ℕ) → Bool → Type 0
Fixed t i r = r ≡ keys_are (drop i (store t)) (kernel_address_slot ∷ current_slot ∷ entry_slot ∷ [])

module _ (table : Records) (i : ℕ) (h : i + 3 ≡ table.used) {a : Bytes} {x : Bool} (l : KeyOf kernel_address_slot a)
    (e : x ≡ eqb (word_at table.bytes.now (64 * i)) (num a)) where
  pub no_address : x ≡ false → Fixed table.bytes.now i false
  no_address q = sym (key-other table i (omega arith) _ _ (slot_same _ l e) q)

  module _ (p : x ≡ true) {b : Bytes} {y : Bool} (m : KeyOf current_slot b)
      (f : y ≡ eqb (word_at table.bytes.now (64 * (i + 1))) (num b)) where
    first : keys_are (drop i (store table.bytes.now)) (kernel_address_slot ∷ current_slot ∷ entry_slot ∷ [])
        ≡ keys_are (drop (i + 1) (store table.bytes.now)) (current_slot ∷ entry_slot ∷ [])
    first = key-same table i (omega arith) _ _ (slot_same _ l e) p

    pub no-current : y ≡ false → Fixed table.bytes.now i false
    no-current q = sym (first ∙ key-other table (i + 1) (omega arith) _ _ (slot_same _ m f) q)

    pub entry-if : y ≡ true → {c : Bytes} {z : Bool} → KeyOf entry_slot c
        → z ≡ eqb (word_at table.bytes.now (64 * (i + 2))) (num c) → Fixed table.bytes.now i z
    entry-if q {z = z} n g = go z refl
      where
        two : i + 1 + 1 ≡ i + 2
        two = omega arith

        second : keys_are (drop i (store table.bytes.now)) (kernel_address_slot ∷ current_slot ∷ entry_slot ∷ [])
            ≡ keys_are (drop (i + 2) (store table.bytes.now)) (entry_slot ∷ [])
        second = first ∙ key-same table (i + 1) (omega arith) _ _ (slot_same _ m f) q
            ∙ ap (λ (j : ℕ). keys_are (drop j (store table.bytes.now)) (entry_slot ∷ [])) two

        go : (w : Bool) → z ≡ w → Fixed table.bytes.now i z
        go true v = v ∙ sym (second ∙ key-same table (i + 2) (omega arith) _ [] (slot_same _ n g) v
            ∙ row_ends table (i + 2 + 1) (omega arith))
        go false v = v ∙ sym (second ∙ key-other table (i + 2) (omega arith) _ [] (slot_same _ n g) v)

-- the places up to the i-th record have their keys
pub record Following (table : Records) (list last i : ℕ) : Type 0 where
  pub small : table.used ≤ 1024
  pub end : last + 3 ≡ table.used
  pub low : list + 1 ≤ i
  pub high : i ≤ last
  pub left : keys_are (drop (list + 1) (store table.bytes.now)) (keys_from 1 (table.used - list - 4))
      ≡ keys_are (drop i (store table.bytes.now)) (keys_from (i - list) (last - i))

pub follow-starts : (table : Records) {list : ℕ} → list + 4 < table.used → Following table list (table.used - 3) (list + 1)
follow-starts table {list} h =
    let one : list + 1 - list ≡ 1 = omega arith in
    let all : table.used - 3 - (list + 1) ≡ table.used - list - 4 = omega arith in
    record { small = few table; end = omega arith; low = omega arith; high = omega arith; left = rw (one, all) refl }

module _ {table : Records} {list last i : ℕ} (g : Following table list last i) (h : i < last) {w : Bytes}
    (v : WordPart table.bytes.now (64 * i) w)
    {r : Bool} (e : r ≡ eqb (num w) (place_slot (i - list))) where
  row : keys_from (i - list) (last - i) ≡ place_slot (i - list) ∷ keys_from (i + 1 - list) (last - (i + 1))
  unfolding keys_from
  row =
      let more : last - i ≡ suc (last - (i + 1)) = omega arith in
      let next : i + 1 - list ≡ suc (i - list) = omega (arith, g.low) in
      rw (more, next) refl

  inside : i < table.used
  inside = omega (arith, g.end)

  at_place : r ≡ eqb (word_at table.bytes.now (64 * i)) (place_slot (i - list))
  at_place = e ∙ ap (λ (x : ℕ). eqb x (place_slot (i - list))) v.number

  pub follow-turns : r ≡ true → Following table list last (i + 1)
  follow-turns q =
      record {
        small = g.small;
        end = g.end;
        low = omega (arith, g.low);
        high = omega arith;
        left = g.left ∙ ap (keys_are (drop i (store table.bytes.now))) row ∙ key-same table i inside _ _ at_place q;
      }

  pub follow-stops : r ≡ false → false ≡ keys_are (drop (list + 1) (store table.bytes.now)) (keys_from 1 (table.used - list - 4))
  follow-stops q = sym (g.left ∙ ap (keys_are (drop i (store table.bytes.now))) row ∙ key-other table i inside _ _ at_place q)

pub follow-ends : {table : Records} {list last i : ℕ} → Following table list last i → last ≤ i → {r : Bool}
    → r ≡ keys_are (drop last (store table.bytes.now)) (kernel_address_slot ∷ current_slot ∷ entry_slot ∷ [])
    → r ≡ keys_are (drop (list + 1) (store table.bytes.now)) (keys_from 1 (table.used - list - 4))
unfolding keys_from
follow-ends {table} {last = last} {i} g h e =
    let same : i ≡ last = omega (arith, g.high) in
    let none : last - last ≡ 0 = omega arith in
    e ∙ sym (g.left ∙ rw (same, none) refl)

-- the last of several tests
last-fails : (a : Bool) {b : Bool} → b ≡ false → false ≡ (a && b)
last-fails true q = sym q
last-fails false q = refl

-- the whole
module _ (table : Records) {list : ℕ} (b : list ≡ before_list (store table.bytes.now)) where
  pub before-within : list ≤ table.used
  unfolding before_list
  before-within = omega (arith, b, below_length (store table.bytes.now) length_slot, table.count)

  pub too_few : table.used ≤ list + 4 → false ≡ list_form (store table.bytes.now)
  unfolding list_form
  too_few h = rw (le-ltb (before_list (store table.bytes.now) + 4) (length (store table.bytes.now))
      (omega (arith, b, table.count)))

  module _ (room : list + 4 < table.used) {slot : Bytes} (l : KeyOf length_slot slot) {x : Bool}
      (e : x ≡ eqb (word_at table.bytes.now (64 * list)) (num slot)) where
    places : places_left (store table.bytes.now) ≡ table.used - list - 4
    unfolding places_left
    places = omega (arith, b, table.count)

    enough : ltb (before_list (store table.bytes.now) + 4) (length (store table.bytes.now)) ≡ true
    enough = lt-ltb (before_list (store table.bytes.now) + 4) (length (store table.bytes.now)) (omega (arith, b, table.count))

    pub no_length : x ≡ false → false ≡ list_form (store table.bytes.now)
    unfolding list_form
    no_length q =
        last-fails (ltb (before_list (store table.bytes.now) + 4) (length (store table.bytes.now))
        && eqb (list_length (store table.bytes.now)) (places_left (store table.bytes.now)))
        (rw (← b) (key-other table list (omega arith) _ (keys_from 1 (places_left (store table.bytes.now))) (slot_same _ l e) q))

    module _ (q : x ≡ true) where
      pub length-key : word_at table.bytes.now (64 * list) ≡ length_slot
      length-key = eqb-true _ _ (sym (slot_same _ l e) ∙ q)

      length-here : list_length (store table.bytes.now) ≡ word_at table.bytes.now (64 * list + 32)
      unfolding list_length
      length-here =
          let inside : list < length (store table.bytes.now) = omega (arith, table.count) in
          ap (get (store table.bytes.now)) (sym length-key)
          ∙ record-holds 0 (store table.bytes.now) list _ _ (formed table.bytes.now table.form).ascends
          (record-at table.bytes.now list inside).here

      rest : keys_are (drop (before_list (store table.bytes.now)) (store table.bytes.now))
          (length_slot ∷ keys_from 1 (places_left (store table.bytes.now)))
          ≡ keys_are (drop (list + 1) (store table.bytes.now)) (keys_from 1 (table.used - list - 4))
      rest = rw (← b, places) (key-same table list (omega arith) _ _ (slot_same _ l e) q)

      module _ {m : ℕ} (f : m ≡ min (word_at table.bytes.now (64 * list + 32)) small_limit) where
        pub other_length : (m ≡ table.used - list - 4 → ⊥) → false ≡ list_form (store table.bytes.now)
        unfolding list_form
        other_length d =
            rw (
              enough,
              ne_eqb (list_length (store table.bytes.now)) (places_left (store table.bytes.now))
                  (λ z. d (omega (arith, f, length-here, places, few table, z))),
            )

        pub rows-if : m ≡ table.used - list - 4 → {r : Bool}
            → r ≡ keys_are (drop (list + 1) (store table.bytes.now)) (keys_from 1 (table.used - list - 4))
            → r ≡ list_form (store table.bytes.now)
        unfolding list_form
        rows-if z g =
            rw (
              enough,
              eq-eqb (list_length (store table.bytes.now)) (places_left (store table.bytes.now))
                  (omega (arith, f, length-here, places, few table, z)),
            ) (g ∙ sym rest)
