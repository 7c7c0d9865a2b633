-- The walk, one step at a time: it ends at the list length, goes on in a procedure, or begins the next one.
use Rattle.std.proofs.Common.{ℕ, suc, ◌≡◌, [], ◌∷◌, true, false, ◌&&◌, eqb, leb}
use Rattle.rules.specs.Table.{Record, Store}
use Rattle.rules.specs.KernelStorage.{length_slot}
use Rattle.rules.specs.Procedures.{list_length}
use Rattle.keys.specs.Keys.{end_first}
use Rattle.walks.specs.Walks.{pick, front_of, later_row, count_after, head_rows, walk}

module _ (s : Store) (b before n : ℕ) (r : Record) where
  pub walk_ends : (rest : Store) → leb length_slot r.key ≡ true → walk s b before n (r ∷ rest) ≡ eqb b (list_length s)
  unfolding walk pick
  walk_ends [] q = rw q
  walk_ends (i ∷ rest) q = rw q

  module _ (i : Record) (rest : Store) (q : leb length_slot r.key ≡ false) where
    pub walk-later : eqb (front_of r.key) (front_of before) ≡ true
        → walk s b before n (r ∷ i ∷ rest) ≡ (later_row (end_first before) n r && walk s b r.key (count_after n r) (i ∷ rest))
    unfolding walk pick
    walk-later e = rw (q, e)

    pub walk-head : eqb (front_of r.key) (front_of before) ≡ false
        → walk s b before n (r ∷ i ∷ rest) ≡ (head_rows s r i && walk s (suc b) i.key 0 rest)
    unfolding walk pick
    walk-head e = rw (q, e)
