-- The loop over the records of the procedures: what is left of the walk is its answer. Records before the list have lower keys than
-- the list length, those from the first on have keys of kernel storage, so each step of the loop is a step of the walk.
use Rattle.std.proofs.Common.{ℕ, suc, ◌+◌, ◌*◌, ◌-◌, ◌%◌, ◌^◌, ◌≤◌, ◌<◌, min, arith, le_trans, add-one, ◌≡◌, refl, sym, ap, ◌∙◌, ◌∷◌, Bool, true, false, true≢false, ◌&&◌, eqb, leb, ltb, drop, replicate, ne_eqb, leb-true, leb-false, le-leb, ltb-true, ltb-false}
use mathlib.Core.Option.{Option, none, some}
use borrow.Author.Tests.{lt-leb}
use Rattle.rules.specs.Words.{Bytes, num_after, num, word_at}
use Rattle.rules.specs.Table.{Store, ◌holds◌, store}
use Rattle.rules.specs.KernelStorage.{address_slot, ending, length_slot}
use Rattle.rules.specs.Capabilities.{Kind, kind_of}
use Rattle.laws.proofs.Bools.{decide-false}
use Rattle.laws.proofs.TableRecords.{record-at, formed}
use Rattle.words.specs.Words.{small_limit}
use Rattle.keys.specs.Keys.{end_first}
use Rattle.moves.specs.Moves.{WordPart}
use Rattle.finding.specs.Finding.{keys_below}
use Rattle.finding.specs.declared.Records.{Records}
use Rattle.finding.proofs.Places.{place_after, place-before}
use Rattle.walks.specs.Walks.{pick, first_slot, front_of, kind_row, later_row, count_after, head_rows, walk, before_list, blocks_form}
use Rattle.walks.proofs.Fronts.{first-before, front-some}
use Rattle.walks.proofs.Steps.{walk_ends, walk-later, walk-head}
use Rattle.lists.specs.Lists.{record_at, Laid}
use Rattle.lists.proofs.LaidRows.{laid-count, laid-within, laid-small}
use Rattle.blocks.specs.Blocks.{HasRecord, continues_at}

-- the first slot of kernel storage
pub first_key : address_slot (num (replicate 24 0)) ≡ first_slot
unfolding address_slot ending num num_after first_slot
first_key = refl

-- whether a record is of the procedure before it
pub none_before : (t : Bytes) (first i : ℕ) → i ≤ first → false ≡ continues_at t first i
unfolding continues_at pick
none_before t first i h = rw (le-leb i first h)

pub before-if : (t : Bytes) (first i : ℕ) → first < i → {a b : Bytes} → WordPart t (64 * i) a → WordPart t (64 * (i - 1)) b
    → {r : Bool} → r ≡ eqb (front_of (num a)) (front_of (num b)) → r ≡ continues_at t first i
unfolding continues_at pick
before-if t first i h a b e = rw (lt-leb i first h, ← a.number, ← b.number) e

-- what is counted behind a later record: a count is small, so nothing is cut
exact-count : (type n k v : ℕ) → later_row type n (k holds v) ≡ true → pick (eqb (k % 256 ^ 2) 0) (min v small_limit) n ≡ count_after n (k holds v)
unfolding later_row kind_row count_after pick
exact-count type n k v t = go (kind_of (end_first k)) refl (eqb (k % 256 ^ 2) 0) refl
  where
    go : (o : Option Kind) → kind_of (end_first k) ≡ o → (b : Bool) → eqb (k % 256 ^ 2) 0 ≡ b
        → pick (eqb (k % 256 ^ 2) 0) (min v small_limit) n ≡ pick (eqb (k % 256 ^ 2) 0) v n
    go none e b q = absurd (true≢false (sym (rw (e, later_row) at t)))
    go (some kind) e true q =
        let few : leb v 255 ≡ true = rw (e, q, later_row) at t in
        let small : v ≤ 255 = leb-true v 255 few in
        rw q (omega arith)
    go (some kind) e false q = rw q refl

-- the key before the i-th record; before the first there is none
unfoldable pub before : (t : Bytes) → (first i : ℕ) → ℕ
before t first i = pick (leb i first) 0 (word_at t (64 * (i - 1)))

before-first : (t : Bytes) (first : ℕ) → before t first first ≡ 0
unfolding before pick
before-first t first = rw (le-leb first first (omega arith))

pub before-next : (t : Bytes) (first i : ℕ) → first ≤ i → before t first (i + 1) ≡ word_at t (64 * i)
unfolding before pick
before-next t first i h = let back : i + 1 - 1 ≡ i = omega arith in rw (lt-leb (i + 1) first (omega arith), back)

-- what is left of the walk, from the i-th record on
pub record Walking (table : Records) (list places first i blocks count : ℕ) : Type 0 where
  pub laid : Laid table list places
  pub start : first ≡ keys_below (store table.bytes.now) first_slot
  pub small : list + places + 4 ≤ 1024
  pub low : first ≤ i
  pub high : i ≤ list + 1
  pub few : blocks ≤ i
  pub left : blocks_form (store table.bytes.now)
      ≡ walk (store table.bytes.now) blocks (before table.bytes.now first i) count (drop i (store table.bytes.now))

module _ {table : Records} {list places : ℕ} (l : Laid table list places) where
  record_is : (i : ℕ) → i ≤ list + 3 → drop i (store table.bytes.now)
      ≡ record_at table.bytes.now i ∷ drop (i + 1) (store table.bytes.now)
  record_is i h = (record-at table.bytes.now i (omega (arith, laid-count l, table.count))).here ∙ rw add-one

  -- keys before the list are lower than the list length; those from the list on are not
  lower : (i : ℕ) → i < list → leb length_slot (word_at table.bytes.now (64 * i)) ≡ false
  unfolding before_list
  lower i h = decide-false _ (λ q. omega (
    arith,
    place-before (store table.bytes.now) length_slot i _ _
        (record_is i (omega arith)) (leb-true _ _ q),
    l.before,
  ))

  higher : (i : ℕ) → list ≤ i → i ≤ list + 3 → leb length_slot (word_at table.bytes.now (64 * i)) ≡ true
  unfolding before_list
  higher i h g = go (leb length_slot (word_at table.bytes.now (64 * i))) refl
    where
      go : (b : Bool) → leb length_slot (word_at table.bytes.now (64 * i)) ≡ b
          → leb length_slot (word_at table.bytes.now (64 * i)) ≡ true
      go true q = q
      go false q =
          absurd (omega (
            arith,
            place_after 0 (store table.bytes.now) length_slot i _ _
                (formed table.bytes.now table.form).ascends (record_is i g) (leb-false _ _ q),
            l.before,
          ))

  -- keys from the first on are keys of kernel storage, so their fronts are not zero
  from_first : (first i : ℕ) → first ≡ keys_below (store table.bytes.now) first_slot → first ≤ i → i ≤ list + 3
      → first_slot ≤ word_at table.bytes.now (64 * i)
  from_first first i e h g = go (ltb (word_at table.bytes.now (64 * i)) first_slot) refl
    where
      go : (b : Bool) → ltb (word_at table.bytes.now (64 * i)) first_slot ≡ b → first_slot ≤ word_at table.bytes.now (64 * i)
      go true q = absurd (omega (
        arith,
        place_after 0 (store table.bytes.now) first_slot i _ _
            (formed table.bytes.now table.form).ascends (record_is i g) (ltb-true _ _ q),
      ))
      go false q = ltb-false _ _ q

  pub walk-starts : {first : ℕ} → first ≡ keys_below (store table.bytes.now) first_slot
      → Walking table list places first first 0 0
  unfolding blocks_form
  walk-starts {first} e =
      let length_from = leb-true _ _ (higher list (omega arith) (omega arith)) in
      let inside = place-before (store table.bytes.now) first_slot list _ _ (record_is list (omega arith))
      (le_trans first-before length_from) in
      record {
        laid = l;
        start = e;
        small = laid-small l;
        low = omega arith;
        high = omega arith;
        few = omega arith;
        left = rw (before-first table.bytes.now first, e) refl;
      }

-- one turn, at the i-th record
module _ {table : Records} {list places first i blocks count : ℕ} (g : Walking table list places first i blocks count)
    (h : i < list) where
  pub has-record : HasRecord table.bytes.now i
  has-record = record { inside = omega (arith, laid-within g.laid); small = omega (arith, g.small) }

  same-front : continues_at table.bytes.now first i
      ≡ eqb (front_of (word_at table.bytes.now (64 * i))) (front_of (before table.bytes.now first i))
  unfolding continues_at before pick
  same-front = go (leb i first) refl
    where
      go : (b : Bool) → leb i first ≡ b → continues_at table.bytes.now first i
          ≡ eqb (front_of (word_at table.bytes.now (64 * i))) (front_of (before table.bytes.now first i))
      go true q =
          let from = from_first g.laid first i g.start g.low (omega arith) in
          rw q (sym (ne_eqb _ _ (front-some (word_at table.bytes.now (64 * i)) from)))
      go false q = rw q refl

  module _ {a : Bool} (e : a ≡ continues_at table.bytes.now first i) where
    front-is : {b : Bool} → a ≡ b → eqb (front_of (word_at table.bytes.now (64 * i))) (front_of (before table.bytes.now first i))
        ≡ b
    front-is q = sym same-front ∙ sym e ∙ q

    pub after_first : a ≡ true → first < i
    unfolding continues_at pick
    after_first q = go (leb i first) refl
      where
        go : (b : Bool) → leb i first ≡ b → first < i
        go true z = let no : continues_at table.bytes.now first i ≡ false = rw z in absurd (true≢false (sym q ∙ e ∙ no))
        go false z = leb-false i first z

    records : drop i (store table.bytes.now) ≡ record_at table.bytes.now i ∷ record_at table.bytes.now (i + 1) ∷ drop (i + 1 + 1)
        (store table.bytes.now)
    records = record_is g.laid i (omega arith) ∙ ap (λ (s : Store). record_at table.bytes.now i ∷ s)
        (record_is g.laid (i + 1) (omega arith))

    -- a later record of a procedure
    module _ (q : a ≡ true) {b : Bool} (f : b ≡ later_row (end_first (word_at table.bytes.now (64 * (i - 1)))) count
        (record_at table.bytes.now i)) where
      row_is : {c : Bool} → b ≡ c → later_row (end_first (before table.bytes.now first i)) count (record_at table.bytes.now i) ≡ c
      unfolding before pick
      row_is z = rw (lt-leb i first (after_first q)) (sym f ∙ z)

      later-left : blocks_form (store table.bytes.now)
          ≡ (later_row (end_first (before table.bytes.now first i)) count (record_at table.bytes.now i)
          && walk (store table.bytes.now) blocks (word_at table.bytes.now (64 * i))
          (count_after count (record_at table.bytes.now i))
          (record_at table.bytes.now (i + 1) ∷ drop (i + 1 + 1) (store table.bytes.now)))
      later-left =
          g.left
          ∙ ap (walk (store table.bytes.now) blocks (before table.bytes.now first i) count) records
          ∙ walk-later (store table.bytes.now) blocks (before table.bytes.now first i) count (record_at table.bytes.now i)
          (record_at table.bytes.now (i + 1)) (drop (i + 1 + 1) (store table.bytes.now))
          (lower g.laid i h) (front-is q)

      pub later-stops : b ≡ false → false ≡ blocks_form (store table.bytes.now)
      later-stops z = sym (later-left ∙ rw (row_is z))

      pub later-turns : b ≡ true → {n : ℕ} → n ≡ pick (eqb (word_at table.bytes.now (64 * i) % 256 ^ 2) 0)
          (min (word_at table.bytes.now (64 * i + 32)) small_limit) count
          → Walking table list places first (i + 1) blocks n
      later-turns z {n} m =
          record {
            laid = g.laid;
            start = g.start;
            small = g.small;
            low = omega (arith, g.low);
            high = omega arith;
            few = omega (arith, g.few);
            left = later-left ∙ rw (row_is z) on;
          }
        where
          exact : n ≡ count_after count (record_at table.bytes.now i)
          exact = m ∙ exact-count (end_first (before table.bytes.now first i)) count _ _ (row_is z)

          on : walk (store table.bytes.now) blocks (word_at table.bytes.now (64 * i))
              (count_after count (record_at table.bytes.now i))
              (record_at table.bytes.now (i + 1) ∷ drop (i + 1 + 1) (store table.bytes.now))
              ≡ walk (store table.bytes.now) blocks (before table.bytes.now first (i + 1)) n
              (drop (i + 1) (store table.bytes.now))
          on = rw (before-next table.bytes.now first i g.low, exact, record_is g.laid (i + 1) (omega arith)) refl

    -- the two records that begin the next procedure
    module _ (q : a ≡ false) {b : Bool} (f : b ≡ head_rows (store table.bytes.now) (record_at table.bytes.now i)
        (record_at table.bytes.now (i + 1))) where
      head-left : blocks_form (store table.bytes.now)
          ≡ (head_rows (store table.bytes.now) (record_at table.bytes.now i) (record_at table.bytes.now (i + 1))
          && walk (store table.bytes.now) (suc blocks) (word_at table.bytes.now (64 * (i + 1))) 0
          (drop (i + 1 + 1) (store table.bytes.now)))
      head-left =
          g.left
          ∙ ap (walk (store table.bytes.now) blocks (before table.bytes.now first i) count) records
          ∙ walk-head (store table.bytes.now) blocks (before table.bytes.now first i) count (record_at table.bytes.now i)
          (record_at table.bytes.now (i + 1)) (drop (i + 1 + 1) (store table.bytes.now))
          (lower g.laid i h) (front-is q)

      pub head-stops : b ≡ false → false ≡ blocks_form (store table.bytes.now)
      head-stops z = sym (head-left ∙ rw (sym f ∙ z))

      pub head-turns : b ≡ true → Walking table list places first (i + 2) (blocks + 1) 0
      head-turns z =
          record {
            laid = g.laid;
            start = g.start;
            small = g.small;
            low = omega (arith, g.low);
            high = omega arith;
            few = omega (arith, g.few);
            left = head-left ∙ rw (sym f ∙ z) on;
          }
        where
          two : i + 2 ≡ i + 1 + 1
          two = omega arith

          more : blocks + 1 ≡ suc blocks
          more = omega arith

          on : walk (store table.bytes.now) (suc blocks) (word_at table.bytes.now (64 * (i + 1))) 0
              (drop (i + 1 + 1) (store table.bytes.now))
              ≡ walk (store table.bytes.now) (blocks + 1) (before table.bytes.now first (i + 2)) 0
              (drop (i + 2) (store table.bytes.now))
          on = rw (two, before-next table.bytes.now first (i + 1) (omega (arith, g.low)), more) refl

-- behind the procedures stands the list
pub walk-done : {table : Records} {list places first i blocks count : ℕ} → Walking table list places first i blocks count
    → list ≤ i
    → eqb blocks places ≡ blocks_form (store table.bytes.now)
walk-done {table} {first = first} {i} {blocks} {count} g h =
    sym (g.left
    ∙ ap (walk (store table.bytes.now) blocks (before table.bytes.now first i) count) (record_is g.laid i (omega (arith, g.high)))
    ∙ walk_ends (store table.bytes.now) blocks (before table.bytes.now first i) count (record_at table.bytes.now i)
    (drop (i + 1) (store table.bytes.now)) (higher g.laid i h (omega (arith, g.high)))
    ∙ ap (eqb blocks) (sym g.laid.all))
