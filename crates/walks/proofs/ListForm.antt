-- The records from the list length on. Their keys are the known row exactly when the list and the three slots behind it are present
-- and nothing else is; then the row's places are the places of the list.
use Rattle.std.proofs.Common.{ℕ, zero, suc, ◌+◌, ◌-◌, ◌^◌, ◌≤◌, ◌<◌, arith, le_trans, lt_of_le_of_lt, ◌≡◌, refl, sym, ap, ◌∙◌, ◌≢◌, ◌⊎◌, inl, inr, List, [], ◌∷◌, true, true≢false, lit<, length, drop, length-drop}
use Rattle.rules.specs.Words.{Every, OneOf}
use Rattle.rules.specs.Table.{Record, Store, get, Ascending, Sized}
use Rattle.rules.specs.KernelStorage.{slot, address_slot, index_slot, count_slot, word_slot, length_slot, place_slot, kernel_address_slot, current_slot, entry_slot}
use Rattle.rules.specs.Capabilities.{number}
use Rattle.rules.specs.Procedures.{list_length, key_at, kernel_address, current, entry_key, InList, Listed}
use Rattle.rules.specs.Sound.{Belongs, address, index, count, capability_word, list_length_here, place, kernel_address_here, current_here, entry_here, Sound}
use Rattle.laws.proofs.Numbers.{same_or_not}
use Rattle.laws.proofs.Bools.{tests-true, true-tests}
use Rattle.laws.proofs.Lists.{every_map, every_drop}
use Rattle.laws.proofs.Stores.{present-recorded, records-present}
use Rattle.laws.proofs.KindFacts.{number_small, word_count-small}
use Rattle.laws.proofs.Slots.{fixed, in_procedure, at_place, zero-end, one_end, ending-fits, slot-less-region, slot-less-middle}
use Rattle.laws.proofs.Procedures.{list-short, listed-non_zero, length-present, place-present}
use Rattle.finding.specs.Finding.{keys_below}
use Rattle.walks.specs.Walks.{keys_from, keys_are, before_list, places_left, list_form}
use Rattle.walks.proofs.Counting.{every-both, keys_from_lem}
use Rattle.walks.proofs.Behind.{behind-ascends, behind-same}
use Rattle.walks.proofs.KeyRows.{keys-each, keys-present, Rises, rises-lower, keys-same}
use Rattle.walks.proofs.Fronts.{in-kernel, first-before, fixed-behind, places_behind}

-- what stands in the row
place-one : (n m j : ℕ) → n ≤ j → j < n + m → OneOf (place_slot j) (keys_from n m)
unfolding keys_from
place-one n zero j h l = absurd (omega arith)
place-one n (suc m) j h l = go (same_or_not j n) (place-one (suc n) m j)
  where
    go : (j ≡ n) ⊎ (j ≢ n) → (suc n ≤ j → j < suc n + m → OneOf (place_slot j) (keys_from (suc n) m))
        → OneOf (place_slot j) (place_slot n ∷ keys_from (suc n) m)
    go (inl q) later = inl (ap place_slot q)
    go (inr d) later = inr (later (omega arith) (omega arith))

fixed-one : (n m k : ℕ) → OneOf k (kernel_address_slot ∷ current_slot ∷ entry_slot ∷ []) → OneOf k (keys_from n m)
unfolding keys_from
fixed-one n zero k i = i
fixed-one n (suc m) k i = inr (fixed-one (suc n) m k i)

row-length : (n m : ℕ) → length (keys_from n m) ≡ m + 3
unfolding keys_from
row-length n zero = refl
row-length n (suc m) = omega (arith, row-length (suc n) m)

keys_length : (s : Store) (ks : List ℕ) → keys_are s ks ≡ true → length s ≡ length ks
unfolding keys_are
keys_length [] [] q = refl
keys_length [] (k ∷ ks) q = absurd (true≢false (sym q))
keys_length (r ∷ s) [] q = absurd (true≢false (sym q))
keys_length (r ∷ s) (k ∷ ks) q = ap suc (keys_length s ks (search tests-true))

-- the row rises
row-rises : (n m : ℕ) → n + m < 2 ^ 192 → Rises (place_slot n) (keys_from n m)
unfolding keys_from place_slot kernel_address_slot current_slot entry_slot
row-rises n zero h =
    let last = slot-less-region {r' = 2} 0 0 (at_place n (lt_of_le_of_lt (omega arith) h)) (omega arith) in
    let address = slot-less-region {r' = 3} 0 0 (fixed 2 (omega arith)) (omega arith) in
    let now = slot-less-region {r' = 4} 0 0 (fixed 3 (omega arith)) (omega arith) in
    (le_of_lt last, (address, (now, tt)))
  where
    le_of_lt : {a b : ℕ} → a < b → a ≤ b
    le_of_lt l = omega arith
row-rises n (suc m) h =
    let next = slot-less-middle {m' = suc n} 0 (at_place n (lt_of_le_of_lt (omega arith) h)) (omega arith) in
    (self, rises-lower _ _ (keys_from (suc n) m) next (row-rises (suc n) m (lt_of_le_of_lt (omega arith) h)))
  where
    self : {a : ℕ} → a ≤ a
    self = omega arith

first-place : length_slot < place_slot 1
unfolding length_slot place_slot
first-place = slot-less-middle 0 (fixed 1 (omega arith)) (omega arith)

behind-rises : (m : ℕ) → 1 + m < 2 ^ 192 → Rises (suc length_slot) (keys_from 1 m)
behind-rises m h = rises-lower (suc length_slot) (place_slot 1) (keys_from 1 m) first-place (row-rises 1 m h)

-- From the test: what is present from the list length on.
pub record Listed-rows (s : Store) : Type 0 where
  pub one : 1 ≤ list_length s
  pub belongs : (k : ℕ) → length_slot ≤ k → get s k ≢ 0 → Belongs s k
  pub present : (n : ℕ) → InList s n → 1 ≤ key_at s n
  pub some : get s length_slot ≢ 0

row-belongs : (s : Store) (n m : ℕ) → 1 ≤ n → n + m ≡ suc (list_length s) → (k : ℕ) → OneOf k (keys_from n m) → Belongs s k
unfolding keys_from
row-belongs s n zero h e k (inl q) = rw q kernel_address_here
row-belongs s n zero h e k (inr (inl q)) = rw q current_here
row-belongs s n zero h e k (inr (inr (inl q))) = rw q entry_here
row-belongs s n zero h e k (inr (inr (inr i))) = absurd i
row-belongs s n (suc m) h e k (inl q) = rw q (place n (record { first = h; last = omega arith }))
row-belongs s n (suc m) h e k (inr i) = row-belongs s (suc n) m (omega arith) (omega arith) k i

module _ (s : Store) (a : Ascending 0 s) where
  tail : Store
  tail = drop (keys_below s length_slot) s

  tail-ascends : Ascending length_slot tail
  unfolding tail
  tail-ascends = behind-ascends s length_slot a

  tail-same : (k : ℕ) → length_slot ≤ k → get s k ≡ get tail k
  unfolding tail
  tail-same k h = behind-same s length_slot k h

  some_left : list_form s ≡ true → 1 ≤ places_left s
  unfolding list_form places_left
  some_left q = let room : before_list s + 4 < length s = search tests-true in omega arith

  pub list-true : list_form s ≡ true → Listed-rows s
  unfolding list_form before_list
  list-true q =
      record {
        one = omega (arith, all, some_left q);
        belongs = λ k from d. only k (λ z. d (tail-same k from ∙ z));
        present = λ n i. placed n i;
        some = λ z. has length_slot (inl refl) (sym (tail-same length_slot (omega arith)) ∙ z);
      }
    where
      all : list_length s ≡ places_left s
      all = search tests-true

      rows : keys_are tail (length_slot ∷ keys_from 1 (places_left s)) ≡ true
      rows = unfold tail in (search tests-true)

      only : (k : ℕ) → get tail k ≢ 0 → Belongs s k
      only = present-recorded (Belongs s) tail (every_map _ _ (λ r i. of r.key i) tail (keys-each tail _ rows))
        where
          of : (k : ℕ) → OneOf k (length_slot ∷ keys_from 1 (places_left s)) → Belongs s k
          of k (inl e) = rw e list_length_here
          of k (inr i) = row-belongs s 1 (places_left s) (omega arith) (omega (arith, all)) k i

      has : (k : ℕ) → OneOf k (length_slot ∷ keys_from 1 (places_left s)) → get tail k ≢ 0
      has = keys-present length_slot tail _ tail-ascends rows

      placed : (n : ℕ) → InList s n → 1 ≤ key_at s n
      placed n i =
          let here = has (place_slot n) (inr (place-one 1 (places_left s) n i.first (omega (arith, i.last, all)))) in
          let there : key_at s n ≢ 0 = unfold key_at in (λ z. here (sym (tail-same (place_slot n) (places_behind n)) ∙ z)) in
          omega arith

  -- And back: a sound store has nothing there but the row.
  module _ (h : Sound s) (v : Sized s) (few : length s ≤ 1024) where
    before-list : {p e : ℕ} → Listed s p → e < 2 ^ 24 → slot 0 p e < length_slot
    unfolding length_slot
    before-list {p} {e} l end =
        let fits : p < 2 ^ 192 = rw l.here at (h.keys l.place l.in_list).fits in
        slot-less-region 0 0 (in_procedure p fits e end) (omega arith)

    belongs-row : (k : ℕ) → length_slot ≤ k → Belongs s k → OneOf k (length_slot ∷ keys_from 1 (list_length s))
    unfolding address_slot index_slot count_slot word_slot
    belongs-row k from (address l) = absurd (omega (arith, before-list l zero-end))
    belongs-row k from (index l) = absurd (omega (arith, before-list l one_end))
    belongs-row k from (count l kind) =
        absurd (omega (arith, before-list l (ending-fits (number kind) 0 0 (number_small kind) (omega arith) (omega arith))))
    belongs-row k from (capability_word l kind i w first last word) =
        let few = rw l.here at (h.counts l.place l.in_list kind) in
        let fits = ending-fits (number kind) i w (number_small kind) (omega arith) (omega (arith, word_count-small kind)) in
        absurd (omega (arith, before-list l fits))
    belongs-row k from list_length_here = inl refl
    belongs-row k from (place n i) = inr (place-one 1 (list_length s) n i.first (omega (arith, i.last)))
    belongs-row k from kernel_address_here = inr (fixed-one 1 (list_length s) _ (inl refl))
    belongs-row k from current_here = inr (fixed-one 1 (list_length s) _ (inr (inl refl)))
    belongs-row k from entry_here = inr (fixed-one 1 (list_length s) _ (inr (inr (inl refl))))

    each_row : (r : Record) → (length_slot ≤ r.key) × ((get tail r.key ≢ 0) × (r.key < 2 ^ 256)) →
        OneOf r.key (length_slot ∷ keys_from 1 (list_length s))
    each_row r (from, (present, word)) =
        let inside = in-kernel r.key (le_trans first-before from) word in
        belongs-row r.key from (h.nothing_else r.key inside (λ z. present (sym (tail-same r.key from) ∙ z)))

    has : (k : ℕ) → length_slot ≤ k → get s k ≢ 0 → get tail k ≢ 0
    has k from d z = d (tail-same k from ∙ z)

    fixed-present : (get tail kernel_address_slot ≢ 0) × (get tail current_slot ≢ 0) × (get tail entry_slot ≢ 0)
    unfolding kernel_address current entry_key kernel_address_slot current_slot entry_slot
    fixed-present = (
      has _ (fixed-behind 2 (omega arith)) (λ z. omega (arith, h.kernel_address_fits.non_zero)),
      has _ (fixed-behind 3 (omega arith)) (listed-non_zero s h _ h.current_listed),
      has _ (fixed-behind 4 (omega arith)) (listed-non_zero s h _ h.entry_listed),
    )

    each-present : (n m : ℕ) → 1 ≤ n → n + m ≡ suc (list_length s) → Every (λ k. get tail k ≢ 0) (keys_from n m)
    unfolding keys_from
    each-present n zero f e = (fixed-present.0, (fixed-present.1, (fixed-present.2, tt)))
    each-present n (suc m) f e = (
      has (place_slot n) (places_behind n) (place-present h n (record { first = f; last = omega arith })),
      each-present (suc n) m (omega arith) (omega arith),
    )

    row : keys_are tail (length_slot ∷ keys_from 1 (list_length s)) ≡ true
    unfolding tail
    row =
        let short : 1 + list_length s < 2 ^ 192 = lt_of_le_of_lt {m = 1025} (omega (arith, list-short s a h)) (lit< tt) in
        keys-same length_slot tail _ tail-ascends
        (self, behind-rises (list_length s) short)
        (has length_slot self (length-present h), each-present 1 (list_length s) (omega arith) (omega arith))
        (every_map _ _ each_row tail
        (every-both _ _ tail (keys_from_lem length_slot tail tail-ascends length_slot self)
        (every-both _ _ tail (records-present length_slot tail tail-ascends) (every_map _ _ (λ r w. w.0) tail (every_drop _ (keys_below s length_slot) s v)))))
      where
        self : {x : ℕ} → x ≤ x
        self = omega arith

    pub true-list : list_form s ≡ true
    unfolding list_form before_list tail places_left
    true-list =
        let long = keys_length tail _ row in
        let all = row-length 1 (list_length s) in
        let dropped = length-drop (keys_below s length_slot) s in
        let left : length s - keys_below s length_slot - 4 ≡ list_length s = omega arith in
        let room : keys_below s length_slot + 4 < length s = omega (arith, h.at_least_one) in
        rw left (search (true-tests, row))
