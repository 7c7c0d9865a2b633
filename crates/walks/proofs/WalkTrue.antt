-- From the walk to the records: where it answers true, each record before the list length is one that soundness asks for, and there
-- are as many indexes as places. What the walk carries, a procedure that stands and the number counted of a type, is what the store holds.
use Rattle.std.proofs.Common.{ℕ, suc, ◌+◌, ◌%◌, ◌^◌, ◌≤◌, ◌<◌, arith, ◌≡◌, refl, sym, ap, ◌∙◌, ◌≢◌, [], ◌∷◌, Bool, true, false, true≢false, eqb, leb, length, eqb-true, leb-true, leb-false}
use mathlib.Core.Option.{Option, none, some}
use Rattle.rules.specs.Words.{Every}
use Rattle.rules.specs.Table.{Record, Store, get, Ascending}
use Rattle.rules.specs.KernelStorage.{slot, ending, middle_of, end_second, end_third, address_slot, index_slot, length_slot}
use Rattle.rules.specs.Capabilities.{Kind, kind_of, number}
use Rattle.rules.specs.Procedures.{list_length, address_of, index_of, count_of}
use Rattle.rules.specs.Sound.{greatest_count, is_address}
use Rattle.laws.proofs.Bools.{and_left, and_right, tests-true}
use Rattle.laws.proofs.KindFacts.{kind_of-some, number-least}
use Rattle.laws.proofs.Lists.{every_map}
use Rattle.keys.specs.Keys.{end_first}
use Rattle.walks.specs.Walks.{first_slot, front_of, pick, word_row, kind_row, later_row, count_after, head_rows, walk}
use Rattle.walks.proofs.Counting.{keys_from_lem}
use Rattle.walks.proofs.Fronts.{end-parts, second-byte, length-end, same-front-from, same-middle, own-next}
use Rattle.walks.proofs.Owned.{Block, Row, of_address, of_index, of_count, of_word, Owned, zeros-end, count-here}
use Rattle.walks.proofs.Indexes.{indexes_of, index-taken, other-left, no-indexes}
use Rattle.walks.proofs.Steps.{walk_ends, walk-later, walk-head}
use Rattle.walks.proofs.Standing.{At, at_next, at_value}

module _ (s : Store) where
  -- what the walk carries behind a record of a procedure
  pub record Carried (before n : ℕ) : Type 0 where
    pub block : Block s (middle_of before)
    pub count : (kind : Kind) → end_first before ≡ number kind → count_of s (middle_of before) kind ≡ n

  -- a later record of the procedure before
  module _ {before n : ℕ} {r : Record} (c : Carried before n) (q : front_of r.key ≡ front_of before) (from : first_slot ≤ r.key)
      (below : r.key < length_slot) (here : get s r.key ≡ r.value) where
    middle : middle_of r.key ≡ middle_of before
    middle = same-middle r.key before q

    -- a row of a type, and what is counted behind it
    record Later : Type 0 where
      row : Row s (middle_of r.key) (r.key % 256 ^ 3) r.value
      carried : Carried r.key (count_after n r)
      typed : r.key % 256 ^ 3 ≢ 1

    typed-end : (kind : Kind) → end_first r.key ≡ number kind → r.key % 256 ^ 3 ≢ 1
    unfolding end_first
    typed-end kind e z = omega (arith, number-least kind)

    by_word : (kind : Kind) → end_first r.key ≡ number kind → eqb (r.key % 256 ^ 2) 0 ≡ false → word_row kind (end_first before) n r ≡ true → Later
    unfolding word_row count_after pick
    by_word kind e z w =
        let type : end_first before ≡ end_first r.key = search tests-true in
        let counted : count_of s (middle_of r.key) kind ≡ n = rw middle (c.count kind (type ∙ e)) in
        let last : end_second r.key ≤ n = search tests-true in
        record {
          row = of_word kind (end_second r.key) (end_third r.key) (end-parts r.key ∙ rw e) (second-byte r.key) (search tests-true)
              (rw counted last) (search tests-true) (search tests-true);
          carried = record { block = rw middle c.block; count = λ other f. rw (z, middle) (c.count other (type ∙ f)) };
          typed = typed-end kind e;
        }

    later : (kind : Kind) → end_first r.key ≡ number kind → (b : Bool) → eqb (r.key % 256 ^ 2) 0 ≡ b → kind_row kind (end_first before) n r ≡ true → Later
    unfolding kind_row count_after pick
    later kind e true z t =
        let few : leb r.value greatest_count ≡ true = rw z at t in
        let zero = eqb-true _ _ z in
        record {
          row = of_count kind (zeros-end r.key e zero) (search tests-true);
          carried = record { block = rw middle c.block; count = λ other f. rw z (count-here s r.key from below other f zero ∙ here) };
          typed = typed-end kind e;
        }
    later kind e false z t = by_word kind e z (rw z at t)

    later-row : later_row (end_first before) n r ≡ true → Later
    unfolding later_row
    later-row t = go (kind_of (end_first r.key)) refl
      where
        go : (o : Option Kind) → kind_of (end_first r.key) ≡ o → Later
        go none e = absurd (true≢false (sym (rw (e, later_row) at t)))
        go (some kind) e = later kind (sym (kind_of-some _ kind e)) (eqb (r.key % 256 ^ 2) 0) refl (rw (e, later_row) at t)

  -- the two records that begin a procedure
  module _ {before : ℕ} {r i : Record} {rest : Store} (a : At s before (r ∷ i ∷ rest)) (below : r.key < length_slot) (t : head_rows s r i ≡ true) where
    zero-end : r.key % 256 ^ 3 ≡ 0
    unfolding head_rows
    zero-end = search tests-true

    next : i.key ≡ suc r.key
    unfolding head_rows
    next = search tests-true

    one_end : i.key % 256 ^ 3 ≡ 1
    one_end = omega (arith, next, zero-end)

    inside : i.key < length_slot
    inside = omega (arith, next, zero-end, length-end)

    slots : (slot 0 (middle_of r.key) 0 ≡ r.key) × (slot 0 (middle_of r.key) 1 ≡ suc r.key)
    slots = own-next r.key a.from.0 below zero-end

    address-here : address_of s (middle_of r.key) ≡ r.value
    unfolding address_of address_slot ending
    address-here = ap (get s) slots.0 ∙ at_value a

    index-here : index_of s (middle_of r.key) ≡ i.value
    unfolding index_of index_slot ending
    index-here = ap (get s) (slots.1 ∙ sym next) ∙ at_value (at_next a)

    head-block : Block s (middle_of r.key)
    unfolding head_rows is_address
    head-block =
        record {
          in_list = rw index-here (record { first = search tests-true; last = search tests-true });
          here = rw index-here (search tests-true);
          address = rw address-here (record { non_zero = search tests-true; fits = search tests-true });
        }

    second_block : Block s (middle_of i.key)
    unfolding front_of
    second_block = rw (same-middle i.key r.key (omega (arith, next, zero-end))) head-block

    head-carried : Carried i.key 0
    unfolding end_first
    head-carried = record { block = second_block; count = λ kind e. absurd (omega (arith, next, zero-end, number-least kind)) }

  -- the whole walk
  abbrev pub OwnedRecord : Record → Type 0
  OwnedRecord r = r.key < length_slot → Owned s r.key r.value

  abbrev pub Judged : (b : ℕ) → Store → Type 0
  Judged b rest = Every OwnedRecord rest × (b + length (indexes_of rest) ≡ list_length s)

  judged-end : (b low : ℕ) (rest : Store) → Ascending low rest → length_slot ≤ low → b ≡ list_length s → Judged b rest
  judged-end b low rest a h e = (
    every_map _ _ (λ r l below. absurd (omega arith)) rest (keys_from_lem low rest a length_slot h),
    rw (no-indexes low rest a h) (omega arith),
  )

  module _ (b n : ℕ) {before : ℕ} {r i : Record} {rest : Store} (a : At s before (r ∷ i ∷ rest)) (c : first_slot ≤ before → Carried before n)
      (t : walk s b before n (r ∷ i ∷ rest) ≡ true)
      (on : At s r.key (i ∷ rest) → (first_slot ≤ r.key → Carried r.key (count_after n r)) → walk s b r.key (count_after n r) (i ∷ rest) ≡ true
      → Judged b (i ∷ rest))
      (anew : At s i.key rest → (first_slot ≤ i.key → Carried i.key 0) → walk s (suc b) i.key 0 rest ≡ true → Judged (suc b) rest) where
    judged-later : leb length_slot r.key ≡ false → eqb (front_of r.key) (front_of before) ≡ true → Judged b (r ∷ i ∷ rest)
    judged-later e f =
        let same = eqb-true (front_of r.key) (front_of before) f in
        let both = sym (walk-later s b before n r i rest e f) ∙ t in
        let now = c (same-front-from r.key before a.from.0 same) in
        let judged = later-row now same a.from.0 (leb-false _ _ e) (at_value a) (and_left _ _ both) in
        let rest-judged = on (at_next a) (λ l. judged.carried) (and_right (later_row (end_first before) n r) _ both) in
        let block : Block s (middle_of r.key) = rw (same-middle r.key before same) now.block in
        ((λ l. record { block = block; row = judged.row }, rest-judged.0), rw (other-left r (i ∷ rest) judged.typed) rest-judged.1)

    judged-head : leb length_slot r.key ≡ false → eqb (front_of r.key) (front_of before) ≡ false → Judged b (r ∷ i ∷ rest)
    judged-head e f =
        let below = leb-false _ _ e in
        let both = sym (walk-head s b before n r i rest e f) ∙ t in
        let head = and_left (head_rows s r i) _ both in
        let rest-judged = anew (at_next (at_next a)) (λ l. head-carried a below head) (and_right (head_rows s r i) _ both) in
        let first : Owned s r.key r.value = record { block = head-block a below head; row = of_address (zero-end a below head) } in
        let second : Owned s i.key i.value = record { block = second_block a below head; row = of_index (one_end a below head) } in
        let not-one : r.key % 256 ^ 3 ≢ 1 = λ z. omega (arith, zero-end a below head) in (
          (λ l. first, (λ l. second, rest-judged.0)),
          rw (other-left r (i ∷ rest) not-one, index-taken i rest (one_end a below head) (inside a below head)) (omega (arith, rest-judged.1)),
        )

    judged-step : Judged b (r ∷ i ∷ rest)
    judged-step = go (leb length_slot r.key) refl (eqb (front_of r.key) (front_of before)) refl
      where
        go : (x : Bool) → leb length_slot r.key ≡ x → (y : Bool) → eqb (front_of r.key) (front_of before) ≡ y → Judged b (r ∷ i ∷ rest)
        go true e y f =
            judged-end b r.key (r ∷ i ∷ rest) (omega arith, a.ascends.1, a.ascends.2) (leb-true _ _ e)
            (eqb-true _ _ (sym (walk_ends s b before n r (i ∷ rest) e) ∙ t))
        go false e true f = judged-later e f
        go false e false f = judged-head e f

  pub walk-true : (b before n : ℕ) (rest : Store) → At s before rest → (first_slot ≤ before → Carried before n)
      → walk s b before n rest ≡ true → Judged b rest
  unfolding walk
  walk-true b before n [] a c t = absurd (true≢false (sym t))
  walk-true b before n (r ∷ []) a c t =
      judged-end b r.key (r ∷ []) (omega arith, a.ascends.1, tt) (search tests-true) (search tests-true)
  walk-true b before n (r ∷ i ∷ rest) a c t =
      judged-step b n a c t (walk-true b r.key (count_after n r) (i ∷ rest)) (walk-true (suc b) i.key 0 rest)
