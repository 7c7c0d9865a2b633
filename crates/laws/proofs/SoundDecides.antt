-- The test `sound` answers true of exactly the stores that the document's sentence, `Sound`, names. Each part of the test is
-- read as its part of the sentence and back: a name that ends in `-true` goes to the sentence, one that begins with `true-` back.
use Prim.Native.Nat.{ℕ, ◌^◌, ◌≤◌, ◌<◌}
use native.Mathlib.Omega.{arith}
use native.Mathlib.Nat.{le_trans, lt_of_le_of_lt}
use mathlib.Core.Path.{◌≡◌, refl}
use mathlib.Core.Logic.{◌≢◌, ◌↔◌}
use mathlib.Core.Bool.{Bool, true, false, ◌||◌, not}
use lib.Dec.{eqb}
use lib.ListN.{length}
use borrow.Author.Tests.{eqb-true}
use Rattle.rules.specs.Table.{Store, Record, get, Ascending}
use Rattle.rules.specs.KernelStorage.{in_kernel_storage, slot, middle_of, end_second, end_third, address_slot, index_slot, count_slot, word_slot, place_slot}
use Rattle.rules.specs.Capabilities.{Kind, kinds, number, word_count, prefix_in_range}
use Rattle.rules.specs.Procedures.{list_length, key_at, count_of, kernel_address, current, entry_key, held, InList, Listed}
use Rattle.rules.specs.Sound.{IsKey, IsAddress, Belongs, address, index, count, capability_word, list_length_here, place, kernel_address_here, current_here, entry_here, Sound, all_of, all_places, is_key, is_address, kind_sound, place_sound, word_belongs, kind_belongs, procedure_belongs, of_listed_procedure, place_belongs, fixed_belongs, belongs, record_belongs, sound}
use Rattle.laws.proofs.Bools.{◌or◌, tests-true, true-tests}
use Rattle.laws.proofs.Lists.{every_map, all_true, every-all, any-true, true-any, places-true, true-places}
use Rattle.laws.proofs.Stores.{present-recorded, records-present}
use Rattle.laws.proofs.KindFacts.{number_small, word_count-small, in-kinds, kinds-true, true-kinds}
use Rattle.laws.proofs.Slots.{slot-middle_of, in_procedure, at_place, zero-end, one_end, ending-fits, word_slot-second, word_slot-third}
use Rattle.laws.proofs.Procedures.{list-short, listed-true, listed_here, held-each, each-held}
use Rattle.laws.proofs.Places.{PlaceSound, place_sound_of, sound_from}

-- Keys and addresses.
is_key-true : (p : ℕ) → is_key p ≡ true → IsKey p
unfolding is_key
is_key-true p q = search tests-true

true-is_key : (p : ℕ) → IsKey p → is_key p ≡ true
unfolding is_key
true-is_key p h = search true-tests

is_address-true : (a : ℕ) → is_address a ≡ true → IsAddress a
unfolding is_address
is_address-true a q = search tests-true

true-is_address : (a : ℕ) → IsAddress a → is_address a ≡ true
unfolding is_address
true-is_address a h = search true-tests

module _ (s : Store) where
  -- One place of the list.
  place_sound-true : (n : ℕ) → place_sound s n ≡ true → PlaceSound s n
  unfolding place_sound kind_sound
  place_sound-true n q =
      record {
        key = search (tests-true, is_key-true);
        address_fits = search (tests-true, is_address-true);
        index = search tests-true;
        counts = λ kind. let each = of-kind kind in search tests-true;
        prefixes = λ kind.
            let each = of-kind kind in
            let all = all_true (prefix_in_range kind) (held s (key_at s n) kind) (search tests-true) in
            held-each (λ c. prefix_in_range kind c ≡ true) s (key_at s n) kind all;
      }
    where
      of-kind : (kind : Kind) → kind_sound s (key_at s n) kind ≡ true
      of-kind = kinds-true (kind_sound s (key_at s n)) (search tests-true)

  true-place_sound : (n : ℕ) → PlaceSound s n → place_sound s n ≡ true
  unfolding place_sound kind_sound
  true-place_sound n h = search (true-tests, true-is_key, true-is_address, true-kinds (kind_sound s (key_at s n)) of-kind)
    where
      of-kind : (kind : Kind) → kind_sound s (key_at s n) kind ≡ true
      of-kind kind =
          let few = h.counts kind in
          let each = each-held (λ c. prefix_in_range kind c ≡ true) s (key_at s n) kind (h.prefixes kind) in
          search (true-tests, every-all)

  -- A key of kernel storage, from the test to the rows of the document's table.
  -- a key that the test finds equal to one that belongs
  same : {k x : ℕ} → Belongs s x → eqb k x ≡ true → Belongs s k
  same {k} {x} b q = rw (eqb-true k x q) b

  fixed_belongs-true : (k : ℕ) → fixed_belongs s k ≡ true → Belongs s k
  unfolding fixed_belongs
  fixed_belongs-true k = same list_length_here or same kernel_address_here or same current_here or same entry_here

  place_belongs-true : (k : ℕ) → place_belongs s k ≡ true → Belongs s k
  unfolding place_belongs
  place_belongs-true k q = same (place (middle_of k) (search tests-true)) (search tests-true)

  word_belongs-true : {p : ℕ} → Listed s p → (k : ℕ) (kind : Kind) → word_belongs s p k kind ≡ true → Belongs s k
  unfolding word_belongs
  word_belongs-true l k kind q =
      same (capability_word l kind (end_second k) (end_third k) (search tests-true) (search tests-true) (search tests-true))
      (search tests-true)

  kind_belongs-true : {p : ℕ} → Listed s p → (k : ℕ) (kind : Kind) → kind_belongs s p k kind ≡ true → Belongs s k
  unfolding kind_belongs
  kind_belongs-true l k kind = same (count l kind) or word_belongs-true l k kind

  procedure_belongs-true : {p : ℕ} → Listed s p → (k : ℕ) → procedure_belongs s p k ≡ true → Belongs s k
  unfolding procedure_belongs
  procedure_belongs-true {p} l k = same (address l) or same (index l) or any-true (kind_belongs s p k) kinds (kind_belongs-true l k)

  of_listed-true : (k : ℕ) → of_listed_procedure s k ≡ true → Belongs s k
  unfolding of_listed_procedure
  of_listed-true k q = procedure_belongs-true (listed-true s (middle_of k) (search tests-true)) k (search tests-true)

  belongs-true : (k : ℕ) → belongs s k ≡ true → Belongs s k
  unfolding belongs
  belongs-true k = fixed_belongs-true k or place_belongs-true k or of_listed-true k

  record_belongs-true : (r : Record) → record_belongs s r ≡ true → in_kernel_storage r.key ≡ true → Belongs s r.key
  unfolding record_belongs
  record_belongs-true r q inside = belongs-true r.key (rw inside at q)

  records-true : all_of (record_belongs s) s ≡ true → (k : ℕ) → in_kernel_storage k ≡ true → get s k ≢ 0 → Belongs s k
  records-true q k inside present =
      let each = every_map _ _ record_belongs-true s (all_true (record_belongs s) s q) in
      present-recorded (λ x. in_kernel_storage x ≡ true → Belongs s x) s each k present inside

  -- The whole store, from the test to the sentence.
  pub sound-true : sound s ≡ true → Sound s
  unfolding sound
  sound-true q =
      let at_least_one : 1 ≤ list_length s = search tests-true depth 8 in
      let all : all_places (place_sound s) (list_length s) ≡ true = search tests-true in
      let places : (n : ℕ) → InList s n → PlaceSound s n =
      λ n i. place_sound-true n (places-true (place_sound s) (list_length s) all n i.first i.last) in
      let current_listed : Listed s (current s) = search (tests-true, listed-true s) in
      let entry_listed : Listed s (entry_key s) = search (tests-true, listed-true s) in
      let kernel_address_fits : IsAddress (kernel_address s) = search (tests-true, is_address-true) in
      sound_from s at_least_one places current_listed entry_listed kernel_address_fits (records-true (search tests-true))

  -- A key of kernel storage, from the document's table to the test, which reads the key or place back from the slot's middle.
  -- Keys fit there by soundness, places because there are no more of them than records.
  module _ (h : Sound s) (a : Ascending 0 s) (few : length s < 2 ^ 192) where
    true-of_listed : {p e : ℕ} → Listed s p → e < 2 ^ 24 → procedure_belongs s p (slot 0 p e) ≡ true → belongs s (slot 0 p e) ≡ true
    unfolding belongs of_listed_procedure
    true-of_listed {p} {e} l end q =
        let fits : p < 2 ^ 192 = rw l.here at (h.keys l.place l.in_list).fits in
        rw (slot-middle_of (in_procedure p fits e end)) (search (true-tests, listed_here s h))

    true-of_kind : {p e : ℕ} → Listed s p → e < 2 ^ 24 → (kind : Kind) → kind_belongs s p (slot 0 p e) kind ≡ true
        → belongs s (slot 0 p e) ≡ true
    unfolding procedure_belongs
    true-of_kind {p} {e} l end kind q =
        true-of_listed l end (search (true-tests, true-any (kind_belongs s p (slot 0 p e)) kinds kind (in-kinds kind)))

    true-word : {p : ℕ} → Listed s p → (kind : Kind) (i k : ℕ) → 1 ≤ i → i ≤ count_of s p kind → k < word_count kind
        → belongs s (word_slot p (number kind) i k) ≡ true
    unfolding kind_belongs word_belongs word_slot
    true-word {p} l kind i k first last word =
        true-of_kind l (ending-fits (number kind) i k (number_small kind) i-small k-small) kind
        (rw (word_slot-second p (number kind) i k i-small k-small, word_slot-third p (number kind) i k k-small) (search true-tests))
      where
        i-small : i < 256
        i-small = omega (arith, rw l.here at (h.counts l.place l.in_list kind))

        k-small : k < 256
        k-small = omega (arith, word_count-small kind)

    true-place : (n : ℕ) → InList s n → belongs s (place_slot n) ≡ true
    unfolding belongs place_belongs place_slot
    true-place n i =
        let fits = at_place n (lt_of_le_of_lt (le_trans i.last (list-short s a h)) few) in
        rw (slot-middle_of fits) (search true-tests)

    true-belongs : (k : ℕ) → Belongs s k → belongs s k ≡ true
    unfolding belongs fixed_belongs address_slot index_slot count_slot procedure_belongs kind_belongs
    true-belongs k (address l) = true-of_listed l zero-end (search true-tests)
    true-belongs k (index l) = true-of_listed l one_end (search true-tests)
    true-belongs k (count l kind) =
        true-of_kind l (ending-fits (number kind) 0 0 (number_small kind) (omega arith) (omega arith)) kind (search true-tests)
    true-belongs k (capability_word l kind i w first last word) = true-word l kind i w first last word
    true-belongs k (place n i) = true-place n i
    true-belongs k list_length_here = search true-tests
    true-belongs k kernel_address_here = search true-tests
    true-belongs k current_here = search true-tests
    true-belongs k entry_here = search true-tests

    true-record_belongs : (r : Record) → get s r.key ≢ 0 → record_belongs s r ≡ true
    unfolding record_belongs
    true-record_belongs r present = go (in_kernel_storage r.key) refl
      where
        go : (b : Bool) → in_kernel_storage r.key ≡ b → (not b || belongs s r.key) ≡ true
        go true inside = true-belongs r.key (h.nothing_else r.key inside present)
        go false inside = refl

    -- The whole store, from the sentence to the test.
    pub true-sound : sound s ≡ true
    unfolding sound
    true-sound =
        let each : (n : ℕ) → InList s n → place_sound s n ≡ true = λ n i. true-place_sound n (place_sound_of s h n i) in
        let places = true-places (place_sound s) (list_length s) (λ n first last. each n (record { first = first; last = last })) in
        let records = every-all (record_belongs s) s (every_map _ _ true-record_belongs s (records-present 0 s a)) in
        search (true-tests, listed_here s h, true-is_address) depth 8

-- Test and sentence say the same of every ascending store whose records can be counted in a slot's middle; a table has 1,024.
pub store-sound-decides : (s : Store) → Ascending 0 s → length s < 2 ^ 192 → (sound s ≡ true) ↔ Sound s
store-sound-decides s a few = (sound-true s, λ h. true-sound s h a few)
