-- Soundness as one walk over the records, which ascend: no slot is looked up that does not stand where the walk is.
-- From the list length on the keys are a known row; before it each procedure's records stand together, its address first,
-- then its index, then for each type the number of its capabilities and their words.
use Rattle.std.specs.Prelude.{ℕ, zero, suc, ◌+◌, ◌/◌, ◌%◌, ◌-◌, ◌^◌, List, [], ◌∷◌, Bool, true, false, ◌&&◌, eqb, leb, ltb, length, drop}
use Rattle.std.proofs.Math.Option.{none, some}
use Rattle.rules.specs.Table.{Store, Record}
use Rattle.rules.specs.KernelStorage.{slot, middle_of, end_second, end_third, length_slot, place_slot, kernel_address_slot, current_slot, entry_slot}
use Rattle.rules.specs.Capabilities.{Kind, kind_of, word_count, prefix_in_range}
use Rattle.rules.specs.Procedures.{list_length, key_at, kernel_address, current, entry_key, listed}
use Rattle.rules.specs.Sound.{greatest_count, is_address}
use Rattle.keys.specs.Keys.{end_first}
use Rattle.finding.specs.Finding.{keys_below}

-- The list: the keys behind the list length, where m places are left from the n-th on.
unfoldable pub keys_from : (n m : ℕ) → List ℕ
keys_from n zero = kernel_address_slot ∷ current_slot ∷ entry_slot ∷ []
keys_from n (suc m) = place_slot n ∷ keys_from (suc n) m

-- the records have these keys
unfoldable pub keys_are : Store → List ℕ → Bool
keys_are [] [] = true
keys_are [] (k ∷ ks) = false
keys_are (r ∷ s) [] = false
keys_are (r ∷ s) (k ∷ ks) = eqb r.key k && keys_are s ks

-- The procedures. The first key of kernel storage; a key without its end.
unfoldable pub first_slot : ℕ
first_slot = slot 0 0 0

unfoldable pub front_of : ℕ → ℕ
front_of k = k / 256 ^ 3

-- one of two, by a test
unfoldable pub pick : {A : Type 0} → Bool → A → A → A
pick true a b = a
pick false a b = b

-- A record of a procedure behind its index: the number of its capabilities of a type, or a word of one of them. The record before
-- is of the given type, of which n capabilities are counted. A type with a prefix has one word, so each word is judged for it.
unfoldable pub word_row : Kind → (type n : ℕ) → Record → Bool
word_row kind type n r =
    eqb type (end_first r.key)
    && leb 1 (end_second r.key)
    && leb (end_second r.key) n
    && ltb (end_third r.key) (word_count kind)
    && prefix_in_range kind (r.value ∷ [])

unfoldable pub kind_row : Kind → (type n : ℕ) → Record → Bool
kind_row kind type n r = pick (eqb (r.key % 256 ^ 2) 0) (leb r.value greatest_count) (word_row kind type n r)

unfoldable pub later_row : (type n : ℕ) → Record → Bool
later_row type n r = elim (kind_of (end_first r.key)) [ none ↦ false | some kind ↦ kind_row kind type n r ]

-- the number of capabilities that is counted behind a record
unfoldable pub count_after : (n : ℕ) → Record → ℕ
count_after n r = pick (eqb (r.key % 256 ^ 2) 0) r.value n

module _ (s : Store) where
  -- the first two records of a procedure, its address and its index: the place that the index names holds its key
  unfoldable pub head_rows : (address index : Record) → Bool
  head_rows a i =
      eqb (a.key % 256 ^ 3) 0
      && eqb i.key (suc a.key)
      && is_address a.value
      && leb 1 i.value
      && leb i.value (list_length s)
      && eqb (key_at s i.value) (middle_of a.key)

  -- the records from one on, up to the list length: behind `blocks` procedures, the key before, and n capabilities counted.
  -- There are as many procedures as places, so each place has its procedure.
  unfoldable pub walk : (blocks before n : ℕ) → Store → Bool
  walk b before n [] = false
  walk b before n (r ∷ []) = leb length_slot r.key && eqb b (list_length s)
  walk b before n (r ∷ i ∷ rest) =
      let later = walk b r.key (count_after n r) (i ∷ rest) in
      let next = walk (suc b) i.key 0 rest in
      pick (leb length_slot r.key) (eqb b (list_length s))
      (pick (eqb (front_of r.key) (front_of before)) (later_row (end_first before) n r && later) (head_rows r i && next))

  -- how many records stand before the list length, and how many places the list then has
  unfoldable pub before_list : ℕ
  before_list = keys_below s length_slot

  unfoldable pub places_left : ℕ
  places_left = length s - before_list - 4

  -- the records from the list length on
  unfoldable pub list_form : Bool
  list_form =
      ltb (before_list + 4) (length s)
      && eqb (list_length s) places_left
      && keys_are (drop before_list s) (length_slot ∷ keys_from 1 places_left)

  -- the procedures
  unfoldable pub blocks_form : Bool
  blocks_form = walk 0 0 0 (drop (keys_below s first_slot) s)

  unfoldable pub walked : Bool
  walked = list_form && blocks_form && listed s (current s) && listed s (entry_key s) && is_address (kernel_address s)
