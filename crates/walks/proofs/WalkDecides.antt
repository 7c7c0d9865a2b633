-- The walk and the test of soundness say the same of every ascending store of words. Each procedure has one index, and it names the
-- place that holds the procedure's key; since there are as many indexes as places, each place has its procedure.
use Rattle.std.proofs.Common.{ℕ, suc, ◌%◌, ◌^◌, ◌≤◌, ◌<◌, arith, mod-lt, lt_of_le_of_lt, lt_of_lt_of_le, ◌≡◌, refl, sym, ap, ◌∙◌, ◌≢◌, Bool, true, false, ltb, lit<, length, drop, ltb-true, ltb-false}
use Rattle.rules.specs.Words.{Every}
use Rattle.rules.specs.Table.{Record, Store, get, Ascending, Sized}
use Rattle.rules.specs.KernelStorage.{in_kernel_storage, slot, ending, middle_of, index_slot, length_slot}
use Rattle.rules.specs.Procedures.{list_length, key_at, index_of, current, entry_key, listed, InList}
use Rattle.rules.specs.Sound.{Belongs, Sound, is_key, is_address, sound}
use Rattle.laws.proofs.Bools.{tests-true, true-tests}
use Rattle.laws.proofs.Tests.{same_test}
use Rattle.laws.proofs.Lists.{every_map, every_drop}
use Rattle.laws.proofs.Stores.{present-recorded, records-present, ascending-lower, pigeons}
use Rattle.laws.proofs.Slots.{in_procedure, slot-middle, slot-less-region, slot-in_kernel_storage}
use Rattle.laws.proofs.Places.{PlaceSound, sound_from}
use Rattle.laws.proofs.Procedures.{listed-true, listed_here, length-present}
use Rattle.laws.proofs.SoundDecides.{store-sound-decides}
use Rattle.finding.specs.Finding.{keys_below}
use Rattle.walks.specs.Walks.{first_slot, list_form, blocks_form, walked}
use Rattle.walks.proofs.Counting.{every-both, keys_from_lem, Numbered, at_most, each_number}
use Rattle.walks.proofs.Behind.{behind-ascends, behind-same}
use Rattle.walks.proofs.Fronts.{in-kernel, kernel-from, own_key, own-end, first-before}
use Rattle.walks.proofs.ListForm.{Listed-rows, list-true, true-list}
use Rattle.walks.proofs.Owned.{Owned, belongs-owned, owned-belongs, place-sound}
use Rattle.walks.proofs.Indexes.{indexes_of, indexes-ascend, indexes-each, indexes-same}
use Rattle.walks.proofs.Standing.{At, at-values}
use Rattle.walks.proofs.WalkTrue.{OwnedRecord, walk-true}
use Rattle.walks.proofs.TrueWalk.{true-walk}

-- the first slot is not the first number
first-positive : 0 < first_slot
unfolding first_slot slot
first-positive = lit< tt

none_before : {P : Type 0} → first_slot ≤ 0 → P
none_before h = absurd (omega (arith, first-positive))

module _ (s : Store) (a : Ascending 0 s) where
  own : Store
  own = drop (keys_below s first_slot) s

  own-ascends : Ascending first_slot own
  unfolding own
  own-ascends = behind-ascends s first_slot a

  start : At s 0 own
  unfolding own
  start =
      record {
        ascends = ascending-lower 1 first_slot own first-positive own-ascends;
        from = own-ascends;
        same = λ k h l. behind-same s first_slot k h;
      }

  -- an index record, by what soundness asks of it
  index_of_place : ℕ → ℕ
  index_of_place n = index_slot (key_at s n)

  module _ (r : Record) (end : r.key % 256 ^ 3 ≡ 1) (below : r.key < length_slot) (from : first_slot ≤ r.key)
      (value : get s r.key ≡ r.value) (o : Owned s r.key r.value) where
    slot_is : index_slot (middle_of r.key) ≡ r.key
    unfolding index_slot ending
    slot_is = ap (slot 0 (middle_of r.key)) (sym end) ∙ own_key r.key from below

    index_is : index_of s (middle_of r.key) ≡ r.value
    unfolding index_of
    index_is = ap (get s) slot_is ∙ value

    key-is : key_at s r.value ≡ middle_of r.key
    key-is = rw index_is at o.block.here

    numbered : Numbered index_of_place (list_length s) r
    unfolding index_of_place
    numbered = (
      rw index_is at o.block.in_list.first,
      rw index_is at o.block.in_list.last,
      ap index_slot key-is ∙ slot_is,
    )

  -- the records of region 00, each with its place in memory and its value
  abbrev Found : Record → Type 0
  Found r = (first_slot ≤ r.key) × (get s r.key ≡ r.value)

  found : Every Found own
  found = every-both _ _ own (keys_from_lem first_slot own own-ascends first_slot (self first_slot)) (at-values s 0 own start)
    where
      self : (x : ℕ) → x ≤ x
      self x = omega arith

  module _ (each : Every (OwnedRecord s) own) where
    all-numbered : Every (Numbered index_of_place (list_length s)) (indexes_of own)
    all-numbered =
        indexes-each _ _ (λ r end below (h : Found r × OwnedRecord s r). numbered r end below h.0.0 h.0.1 (h.1 below))
        own (every-both _ _ own found each)

    owned : (k : ℕ) → first_slot ≤ k → k < length_slot → get s k ≢ 0 → Owned s k (get s k)
    owned k from below present =
        present-recorded (λ x. x < length_slot → Owned s x (get s x)) own (every_map _ _ here own (every-both _ _ own found each))
        k (λ z. present (start.same k from (lt_of_lt_of_le first-positive from) ∙ z)) below
      where
        here : (r : Record) → Found r × OwnedRecord s r → r.key < length_slot → Owned s r.key (get s r.key)
        here r h l = rw h.0.1 (h.1 l)

    -- where there are as many indexes as places, each place has its procedure
    place_of : Listed-rows s → length (indexes_of own) ≡ list_length s → (n : ℕ) → InList s n → PlaceSound s n
    unfolding middle_of
    place_of l many n i =
        each_number index_of_place first_slot (list_length s) (indexes_of own) (indexes-ascend first_slot own own-ascends) all-numbered
        (omega arith) n i.first i.last
        (indexes-each _ _ here own (every-both _ _ own found each))
      where
        here : (r : Record) → r.key % 256 ^ 3 ≡ 1 → r.key < length_slot → Found r × OwnedRecord s r → r.value ≡ n → PlaceSound s n
        here r end below h e =
            let o = h.1 below in
            let key : key_at s n ≡ middle_of r.key = rw e at (key-is r end below h.0.0 h.0.1 o) in
            let index : index_of s (middle_of r.key) ≡ n = index_is r end below h.0.0 h.0.1 o ∙ e in
            place-sound s owned (middle_of r.key) (mod-lt _ (lit< tt)) n key (rw key at (l.present n i)) index o.block.address

  -- from the walk to soundness
  walked-true : walked s ≡ true → Sound s
  unfolding walked blocks_form own is_address
  walked-true q =
      let l = list-true s a (search tests-true) in
      let judged = walk-true s 0 0 0 own start none_before (search tests-true) in
      sound_from s l.one (place_of judged.0 l (omega (arith, judged.1)))
      (search (tests-true, listed-true s)) (search (tests-true, listed-true s))
      (record { non_zero = search tests-true; fits = search tests-true }) (nothing-else l judged.0)
    where
      nothing-else : Listed-rows s → Every (OwnedRecord s) own → (k : ℕ) → in_kernel_storage k ≡ true → get s k ≢ 0 → Belongs s k
      nothing-else l each k inside present = go (ltb k length_slot) refl
        where
          go : (b : Bool) → ltb k length_slot ≡ b → Belongs s k
          go true e =
              let below = ltb-true _ _ e in
              let from = kernel-from k inside in
              owned-belongs s k (get s k) from below (owned each k from below present)
          go false e = l.belongs k (ltb-false _ _ e) present

  -- from soundness to the walk
  module _ (h : Sound s) (v : Sized s) (few : length s ≤ 1024) where
    each : Every (OwnedRecord s) own
    unfolding own
    each =
        every_map _ _ here own
        (every-both _ _ own found
        (every-both _ _ own (every_map _ _ (λ r (w : (r.key < 2 ^ 256) × (r.value < 2 ^ 256)). w.0) own (every_drop _ (keys_below s first_slot) s v))
        (records-present first_slot own own-ascends)))
      where
        here : (r : Record) → Found r × ((r.key < 2 ^ 256) × (get own r.key ≢ 0)) → OwnedRecord s r
        here r ((from, value), (word, present)) below =
            let there : get s r.key ≢ 0 = λ z. present (sym (start.same r.key from (lt_of_lt_of_le first-positive from)) ∙ z) in
            belongs-owned s h r.key r.value below value (h.nothing_else r.key (in-kernel r.key from word) there)

    -- the index of the key at each place is one of the indexes
    index-present : (n : ℕ) → InList s n → get (indexes_of own) (index_of_place n) ≢ 0
    unfolding index_of_place index_slot ending length_slot
    index-present n i z =
        let fits = in_procedure (key_at s n) (h.keys n i).fits 1 (lit< tt) in
        let from = kernel-from (slot 0 (key_at s n) 1) (slot-in_kernel_storage fits) in
        let below : slot 0 (key_at s n) 1 < slot 1 0 0 = slot-less-region 0 0 fits (omega arith) in
        let same = indexes-same own (slot 0 (key_at s n) 1) (own-end (key_at s n) 1 (lit< tt)) below in
        let there = start.same (slot 0 (key_at s n) 1) from (lt_of_lt_of_le first-positive from) in
        let index : get s (slot 0 (key_at s n) 1) ≡ n = unfold index_of index_slot ending in (h.indexes n i) in
        omega (arith, i.first, sym index ∙ there ∙ sym same ∙ z)

    apart : (m n : ℕ) → InList s m → InList s n → index_of_place m ≡ index_of_place n → m ≡ n
    unfolding index_of_place index_slot ending
    apart m n i j q =
        h.distinct m n i j
        (slot-middle (in_procedure _ (h.keys m i).fits 1 (lit< tt)) (in_procedure _ (h.keys n j).fits 1 (lit< tt)) q)

    many : length (indexes_of own) ≡ list_length s
    many =
        let up = indexes-ascend first_slot own own-ascends in
        let most = at_most index_of_place first_slot (list_length s) (indexes_of own) up (all-numbered each) in
        let least = pigeons (list_length s) (λ i. index_of_place (suc i)) (indexes_of own) (ascending-lower 0 first_slot (indexes_of own) (omega arith) up)
        (λ i l. index-present (suc i) (at i l))
        (λ i j l m q. omega (arith, apart (suc i) (suc j) (at i l) (at j m) q)) in
        omega arith
      where
        at : (i : ℕ) → i < list_length s → InList s (suc i)
        at i l = record { first = omega arith; last = l }

    true-walked : walked s ≡ true
    unfolding walked blocks_form own is_address
    true-walked =
        let list = true-list s a h v few in
        let zero-before : 0 < length_slot = lt_of_lt_of_le first-positive first-before in
        let blocks = true-walk s (length-present h) 0 0 0 own start none_before zero-before (each, omega (arith, many)) in
        let now = listed_here s h (current s) h.current_listed in
        let entry = listed_here s h (entry_key s) h.entry_listed in
        search (true-tests, h.kernel_address_fits) depth 8

-- where the list and the procedures are as the walk asks, only a key is listed
pub listed-key : (s : Store) → Ascending 0 s → list_form s ≡ true → blocks_form s ≡ true → (p : ℕ) → listed s p ≡ true → is_key p ≡ true
unfolding blocks_form own is_key
listed-key s a q w p e =
    let judged = walk-true s 0 0 0 (own s a) (start s a) none_before w in
    let l = listed-true s p e in
    let here = place_of s a judged.0 (list-true s a q) (omega (arith, judged.1)) l.place l.in_list in
    let key = rw l.here at here.key in
    search true-tests

-- Walk and test are one; a table has at most 1,024 records.
pub sound-walked : (s : Store) → Ascending 0 s → Sized s → length s ≤ 1024 → sound s ≡ walked s
sound-walked s a v few =
    let decides = store-sound-decides s a (lt_of_le_of_lt few (lit< tt)) in
    same_test (sound s) (walked s) (λ q. true-walked s a (decides.0 q) v few) (λ q. decides.1 (walked-true s a q))
