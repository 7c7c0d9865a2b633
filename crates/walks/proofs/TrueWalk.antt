-- From the records to the walk: where each record before the list length is one that soundness asks for, the walk answers true.
-- A slot that must be present cannot stand between two records, so a procedure's first record is its address, the next one its index,
-- and a word stands behind its type's count.
use Rattle.std.proofs.Common.{ℕ, suc, ◌+◌, ◌*◌, ◌%◌, ◌-◌, ◌^◌, ◌≤◌, ◌<◌, arith, ◌≡◌, refl, sym, ap, ◌∙◌, ◌≢◌, [], ◌∷◌, Bool, true, false, eqb, leb, length, eqb-true, eq-eqb, ne_eqb, leb-true, leb-false}
use mathlib.Core.Option.{some}
use borrow.Author.Tests.{eqb-false}
use Rattle.rules.specs.Table.{Record, Store, get}
use Rattle.rules.specs.KernelStorage.{slot, ending, middle_of, end_second, end_third, address_slot, index_slot, length_slot}
use Rattle.rules.specs.Capabilities.{Kind, kind_of, number}
use Rattle.rules.specs.Procedures.{list_length, key_at, address_of, index_of, count_of}
use Rattle.rules.specs.Sound.{is_address}
use Rattle.laws.proofs.Bools.{and_both, true-tests}
use Rattle.laws.proofs.KindFacts.{kind_of-number, number-least, word_count-small}
use Rattle.laws.proofs.Stores.{get_none}
use Rattle.laws.proofs.Numbers.{Order, less, equal, more, order}
use Rattle.keys.specs.Keys.{end_first}
use Rattle.walks.specs.Walks.{first_slot, front_of, pick, word_row, kind_row, later_row, count_after, head_rows, walk}
use Rattle.walks.proofs.Fronts.{first-before, length-end, same-front-from, same-middle, own-next}
use Rattle.walks.proofs.Owned.{Block, Row, of_address, of_index, of_count, of_word, count-here}
use Rattle.walks.proofs.Indexes.{indexes_of, index-taken, other-left, no-indexes}
use Rattle.walks.proofs.Steps.{walk_ends, walk-later, walk-head}
use Rattle.walks.proofs.Standing.{At, at_next, at_value, at_least}
use Rattle.walks.proofs.WalkTrue.{Judged}

-- the bytes of an end
module _ (k a i w : ℕ) (e : k % 256 ^ 3 ≡ ending a i w) (b : i < 256) (c : w < 256) where
  first-is : end_first k ≡ a
  unfolding end_first ending
  first-is = omega arith

  second_is : end_second k ≡ i
  unfolding end_second ending
  second_is = omega arith

  third-is : end_third k ≡ w
  unfolding end_third ending
  third-is = omega arith

  last-is : k % 256 ^ 2 ≡ i * 256 + w
  unfolding ending
  last-is = omega arith

module _ (s : Store) where
  -- what the walk carries behind a record that is not an address
  pub record Ready (before n : ℕ) : Type 0 where
    pub past : 1 ≤ before % 256 ^ 3
    pub count : (kind : Kind) → end_first before ≡ number kind → count_of s (middle_of before) kind ≡ n

  -- a later record of the procedure before
  module _ {before n : ℕ} {r : Record} {rest : Store} (a : At s before (r ∷ rest)) (c : Ready before n)
      (q : front_of r.key ≡ front_of before) (below : r.key < length_slot) where
    -- the slot of the count that a word stands behind
    counted : (kind : Kind) → end_first r.key ≡ number kind → count_of s (middle_of r.key) kind ≡ get s (r.key - r.key % 256 ^ 2)
    unfolding end_first front_of
    counted kind e =
        let x = r.key - r.key % 256 ^ 2 in
        let front : front_of x ≡ front_of r.key = omega arith in
        let from = same-front-from r.key x a.from.0 (sym front) in
        ap (λ (m : ℕ). count_of s m kind) (sym (same-middle x r.key front))
        ∙ count-here s x from (omega arith) kind (unfold end_first in (omega (arith, e))) (omega arith)

    same-type : (kind : Kind) → end_first r.key ≡ number kind → 1 ≤ count_of s (middle_of r.key) kind → 1 ≤ r.key % 256 ^ 2
        → end_first before ≡ end_first r.key
    unfolding end_first front_of
    same-type kind e one word = go (order before (r.key - r.key % 256 ^ 2))
      where
        go : Order before (r.key - r.key % 256 ^ 2) → end_first before ≡ end_first r.key
        go (less l) =
            let from = same-front-from r.key (r.key - r.key % 256 ^ 2) a.from.0 (unfold front_of in (omega arith)) in
            absurd (omega (arith, at_least a (r.key - r.key % 256 ^ 2) from l (λ z. omega (arith, counted kind e))))
        go (equal l) = omega (arith, a.ascends.0)
        go (more l) = omega (arith, a.ascends.0)

    record Later : Type 0 where
      row : later_row (end_first before) n r ≡ true
      ready : Ready r.key (count_after n r)
      typed : r.key % 256 ^ 3 ≢ 1

    -- a record whose first end byte is a type's number
    of-kind : (kind : Kind) → end_first r.key ≡ number kind → kind_row kind (end_first before) n r ≡ true
        → ((other : Kind) → end_first r.key ≡ number other → count_of s (middle_of r.key) other ≡ count_after n r) → Later
    unfolding later_row end_first
    of-kind kind e row count =
        let names : kind_of (end_first r.key) ≡ some kind = ap kind_of e ∙ kind_of-number kind in
        record {
          row = rw (names, later_row) row;
          ready = record { past = omega (arith, number-least kind); count = count };
          typed = λ z. omega (arith, number-least kind);
        }

    judge : Row s (middle_of r.key) (r.key % 256 ^ 3) r.value → Later
    unfolding kind_row word_row count_after pick front_of
    judge (of_address e) = absurd (omega (arith, c.past, a.ascends.0))
    judge (of_index e) = absurd (omega (arith, c.past, a.ascends.0))
    judge (of_count kind e few) =
        let zero : eqb (r.key % 256 ^ 2) 0 ≡ true = eq-eqb _ _ (last-is r.key (number kind) 0 0 e (omega arith) (omega arith)) in
        of-kind kind (first-is r.key (number kind) 0 0 e (omega arith) (omega arith)) (rw zero (search true-tests))
        (λ other f. rw zero (count-here s r.key a.from.0 below other f (eqb-true _ _ zero) ∙ at_value a))
    judge (of_word kind i w e byte one last word range) =
        let small : w < 256 = omega (arith, word_count-small kind) in
        let type = first-is r.key (number kind) i w e byte small in
        let second = second_is r.key (number kind) i w e byte small in
        let third = third-is r.key (number kind) i w e byte small in
        let some_end : 1 ≤ r.key % 256 ^ 2 = omega (arith, last-is r.key (number kind) i w e byte small) in
        let same = same-type kind type (omega arith) some_end in
        let middle = same-middle r.key before q in
        let all : (other : Kind) → end_first r.key ≡ number other → count_of s (middle_of r.key) other ≡ n =
        λ other f. rw middle (c.count other (same ∙ f)) in
        let not-zero : eqb (r.key % 256 ^ 2) 0 ≡ false = ne_eqb (r.key % 256 ^ 2) 0 (λ z. omega arith) in
        let within : i ≤ n = rw (all kind type) at last in
        of-kind kind type (rw (not-zero, second, third) (search true-tests)) (λ other f. rw not-zero (all other f))

  -- the record that begins a procedure is its address, and the next one its index
  module _ {before : ℕ} {r i : Record} {rest : Store} (a : At s before (r ∷ i ∷ rest)) (d : front_of r.key ≢ front_of before)
      (below : r.key < length_slot) (b : Block s (middle_of r.key)) where
    start : ℕ
    start = r.key - r.key % 256 ^ 3

    start-slots : (slot 0 (middle_of r.key) 0 ≡ start) × (slot 0 (middle_of r.key) 1 ≡ suc start)
    unfolding front_of start
    start-slots =
        let front : front_of start ≡ front_of r.key = omega arith in
        let slots = own-next start (same-front-from r.key start a.from.0 (sym front)) (omega arith) (omega arith) in
        rw (same-middle start r.key front) at slots

    zero-end : r.key % 256 ^ 3 ≡ 0
    unfolding front_of start address_of address_slot ending
    zero-end =
        let from = same-front-from r.key start a.from.0 (unfold front_of start in (omega arith)) in
        let here : address_of s (middle_of r.key) ≡ get s start = ap (get s) start-slots.0 in
        let least = at_least a start from (omega (arith, a.ascends.0)) (λ z. omega (arith, b.address.non_zero)) in
        omega arith

    slots : (slot 0 (middle_of r.key) 0 ≡ r.key) × (slot 0 (middle_of r.key) 1 ≡ suc r.key)
    slots = own-next r.key a.from.0 below zero-end

    address-here : address_of s (middle_of r.key) ≡ r.value
    unfolding address_of address_slot ending
    address-here = ap (get s) slots.0 ∙ at_value a

    next_here : index_of s (middle_of r.key) ≡ get s (suc r.key)
    unfolding index_of index_slot ending
    next_here = ap (get s) slots.1

    next : i.key ≡ suc r.key
    next =
        let behind = at_next a in
        let from = up a.from.0 in
        let least = at_least behind (suc r.key) from (omega arith) (λ z. omega (arith, b.in_list.first, next_here)) in
        omega (arith, behind.ascends.0)
      where
        up : {x y : ℕ} → x ≤ y → x ≤ suc y
        up h = omega arith

    index-here : index_of s (middle_of r.key) ≡ i.value
    index-here = next_here ∙ ap (get s) (sym next) ∙ at_value (at_next a)

    head_rows_lem : head_rows s r i ≡ true
    unfolding head_rows is_address
    head_rows_lem =
        let fits = rw address-here at b.address in
        let first : 1 ≤ i.value = rw index-here at b.in_list.first in
        let last : i.value ≤ list_length s = rw index-here at b.in_list.last in
        let here : key_at s i.value ≡ middle_of r.key = rw index-here at b.here in
        let end = zero-end in
        let follows = next in
        search true-tests depth 8

    head-ready : Ready i.key 0
    unfolding end_first
    head-ready =
        record {
          past = omega (arith, next, zero-end);
          count = λ kind e. absurd (omega (arith, next, zero-end, number-least kind));
        }

    one_end : i.key % 256 ^ 3 ≡ 1
    one_end = omega (arith, next, zero-end)

    inside : i.key < length_slot
    inside = omega (arith, next, zero-end, length-end)

  -- the whole walk
  module _ (present : get s length_slot ≢ 0) where
    ended : (b before n : ℕ) (r : Record) (rest : Store) → At s before (r ∷ rest) → leb length_slot r.key ≡ true
        → b + length (indexes_of (r ∷ rest)) ≡ list_length s → walk s b before n (r ∷ rest) ≡ true
    ended b before n r rest a e all =
        let none = no-indexes r.key (r ∷ rest) (omega arith, a.ascends.1, a.ascends.2) (leb-true _ _ e) in
        walk_ends s b before n r rest e ∙ eq-eqb b (list_length s) (omega (arith, all, ap length none))

    -- the list length is not behind the last record
    not_last : {before : ℕ} → At s before [] → before < length_slot → ⊥
    not_last a l = present (a.same length_slot first-before l ∙ get_none length_slot)

    module _ (b n : ℕ) {before : ℕ} {r i : Record} {rest : Store} (a : At s before (r ∷ i ∷ rest)) (c : first_slot ≤ before → Ready before n)
        (j : Judged s b (r ∷ i ∷ rest))
        (on : At s r.key (i ∷ rest) → (first_slot ≤ r.key → Ready r.key (count_after n r)) → r.key < length_slot → Judged s b (i ∷ rest)
        → walk s b r.key (count_after n r) (i ∷ rest) ≡ true)
        (anew : At s i.key rest → (first_slot ≤ i.key → Ready i.key 0) → i.key < length_slot → Judged s (suc b) rest
        → walk s (suc b) i.key 0 rest ≡ true) where
      step-later : leb length_slot r.key ≡ false → eqb (front_of r.key) (front_of before) ≡ true → walk s b before n (r ∷ i ∷ rest) ≡ true
      step-later e f =
          let below = leb-false _ _ e in
          let same = eqb-true (front_of r.key) (front_of before) f in
          let later = judge a (c (same-front-from r.key before a.from.0 same)) same below (j.0.0 below).row in
          let others = rw (other-left r (i ∷ rest) later.typed) at j.1 in
          walk-later s b before n r i rest e f
          ∙ and_both _ _ later.row (on (at_next a) (λ l. later.ready) below (j.0.1, others))

      step-head : leb length_slot r.key ≡ false → eqb (front_of r.key) (front_of before) ≡ false → walk s b before n (r ∷ i ∷ rest) ≡ true
      step-head e f =
          let below = leb-false _ _ e in
          let other = eqb-false (front_of r.key) (front_of before) f in
          let block = (j.0.0 below).block in
          let end = inside a other below block in
          let not-one : r.key % 256 ^ 3 ≢ 1 = λ z. omega (arith, zero-end a other below block) in
          let others = rw (other-left r (i ∷ rest) not-one, index-taken i rest (one_end a other below block) end) at j.1 in
          walk-head s b before n r i rest e f
          ∙ and_both _ _ (head_rows_lem a other below block)
          (anew (at_next (at_next a)) (λ l. head-ready a other below block) end (j.0.1.1, omega arith))

      step : walk s b before n (r ∷ i ∷ rest) ≡ true
      step = go (leb length_slot r.key) refl (eqb (front_of r.key) (front_of before)) refl
        where
          go : (x : Bool) → leb length_slot r.key ≡ x → (y : Bool) → eqb (front_of r.key) (front_of before) ≡ y
              → walk s b before n (r ∷ i ∷ rest) ≡ true
          go true e y f = ended b before n r (i ∷ rest) a e j.1
          go false e true f = step-later e f
          go false e false f = step-head e f

    pub true-walk : (b before n : ℕ) (rest : Store) → At s before rest → (first_slot ≤ before → Ready before n) → before < length_slot
        → Judged s b rest → walk s b before n rest ≡ true
    true-walk b before n [] a c l j = absurd (not_last a l)
    true-walk b before n (r ∷ []) a c l j = go (leb length_slot r.key) refl
      where
        go : (x : Bool) → leb length_slot r.key ≡ x → walk s b before n (r ∷ []) ≡ true
        go true e = ended b before n r [] a e j.1
        go false e = absurd (not_last (at_next a) (leb-false _ _ e))
    true-walk b before n (r ∷ i ∷ rest) a c l j =
        step b n a c j (true-walk b r.key (count_after n r) (i ∷ rest)) (true-walk (suc b) i.key 0 rest)
