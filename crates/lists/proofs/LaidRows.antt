-- A table whose list is laid out: the n-th place is the n-th record behind the list length, so its key is read there.
use Rattle.std.proofs.Common.{ℕ, zero, suc, ◌+◌, ◌*◌, ◌-◌, ◌≤◌, ◌<◌, arith, ◌≡◌, refl, sym, ap, ◌∙◌, List, [], ◌∷◌, true, length, drop, drop-drop}
use Rattle.rules.specs.Words.{word_at}
use Rattle.rules.specs.Table.{Record, Store, get, store}
use Rattle.rules.specs.KernelStorage.{length_slot, place_slot}
use Rattle.rules.specs.Procedures.{list_length, key_at}
use Rattle.laws.proofs.Bools.{tests-true}
use Rattle.laws.proofs.TableRecords.{record-at, formed}
use Rattle.walks.specs.Walks.{keys_from, keys_are, before_list, places_left, list_form}
use Rattle.walks.proofs.Behind.{record-holds}
use Rattle.finding.specs.declared.Records.{Records}
use Rattle.listing.proofs.Lookups.{few}
use Rattle.lists.specs.Lists.{Laid}
use Rattle.lists.proofs.ListRows.{within}

-- the i-th record has the i-th key
keys-at : (i : ℕ) (s : Store) (ks : List ℕ) {r : Record} {rest : Store} {k : ℕ} {more : List ℕ} → keys_are s ks ≡ true
    → drop i s ≡ r ∷ rest → drop i ks ≡ k ∷ more → r.key ≡ k
unfolding keys_are
keys-at zero (x ∷ s) (y ∷ ks) t q e = let first : x.key ≡ y = search tests-true in cc
keys-at zero [] ks t q e = let z : ◌≡◌ {A = ℕ} 0 1 = cc in absurd (omega arith)
keys-at zero (x ∷ s) [] t q e = let z : ◌≡◌ {A = ℕ} 0 1 = cc in absurd (omega arith)
keys-at (suc i) (x ∷ s) (y ∷ ks) t q e = keys-at i s ks (search tests-true) q e
keys-at (suc i) [] ks t q e = let z : ◌≡◌ {A = ℕ} 0 1 = cc in absurd (omega arith)
keys-at (suc i) (x ∷ s) [] t q e = let z : ◌≡◌ {A = ℕ} 0 1 = cc in absurd (omega arith)

place-key : (i n m : ℕ) → i < m → drop i (keys_from n m) ≡ place_slot (n + i) ∷ keys_from (suc (n + i)) (m - suc i)
unfolding keys_from
place-key i n zero h = absurd (omega arith)
place-key zero n (suc m) h =
    let here : n + 0 ≡ n = omega arith in
    let left : suc m - 1 ≡ m = omega arith in
    rw (here, left) refl
place-key (suc i) n (suc m) h =
    let next : suc n + i ≡ n + suc i = omega arith in
    let left : m - suc i ≡ suc m - suc (suc i) = omega arith in
    place-key i (suc n) m (omega arith) ∙ rw (next, left) refl

-- what the test of the list says
module _ (s : Store) (q : list_form s ≡ true) where
  form-room : before_list s + 4 < length s
  unfolding list_form
  form-room = search tests-true

  form-length : list_length s ≡ places_left s
  unfolding list_form
  form-length = search tests-true

  form-keys : keys_are (drop (before_list s) s) (length_slot ∷ keys_from 1 (places_left s)) ≡ true
  unfolding list_form
  form-keys = search tests-true

module _ (table : Records) {list : ℕ} (b : list ≡ before_list (store table.bytes.now))
    (q : list_form (store table.bytes.now) ≡ true) where
  pub laid-room : list + 4 < table.used
  laid-room = omega (arith, b, table.count, form-room (store table.bytes.now) q)

  pub is-laid : Laid table list (table.used - list - 4)
  unfolding places_left
  is-laid = record { before = b; all = omega (arith, b, table.count, form-length (store table.bytes.now) q); rows = q }

module _ {table : Records} {list places : ℕ} (l : Laid table list places) where
  pub laid-count : list + places + 4 ≡ table.used
  unfolding places_left
  laid-count =
      let room = form-room (store table.bytes.now) l.rows in
      omega (arith, table.count, l.before, l.all, form-length (store table.bytes.now) l.rows, room)

  pub laid-within : 64 * (list + places + 4) ≤ length table.bytes.now
  laid-within = omega (arith, laid-count, within table)

  pub laid-small : list + places + 4 ≤ 1024
  laid-small = omega (arith, laid-count, few table)

  -- the key of the record behind j others and the list length
  laid-key : (j : ℕ) → j < places → {r : Record} {rest : Store} → drop (list + suc j) (store table.bytes.now) ≡ r ∷ rest
      → r.key ≡ place_slot (suc j)
  laid-key j h q =
      let there = drop-drop (suc j) (before_list (store table.bytes.now)) (store table.bytes.now)
      ∙ ap (λ (n : ℕ). drop (n + suc j) (store table.bytes.now)) (sym l.before) ∙ q in
      let within : j < places_left (store table.bytes.now) = omega (arith, l.all, form-length (store table.bytes.now) l.rows) in
      let next : 1 + j ≡ suc j = omega arith in
      keys-at (suc j) _ _ (form-keys (store table.bytes.now) l.rows) there
      (place-key j 1 (places_left (store table.bytes.now)) within) ∙ ap place_slot next

  pub place_at : (n : ℕ) → 1 ≤ n → n ≤ places → key_at (store table.bytes.now) n ≡ word_at table.bytes.now (64 * (list + n) + 32)
  unfolding key_at
  place_at zero one last = absurd (omega arith)
  place_at (suc j) one last =
      let stands = (record-at table.bytes.now (list + suc j) (omega (arith, laid-count, table.count))).here in
      ap (get (store table.bytes.now)) (sym (laid-key j last stands))
      ∙ record-holds 0 (store table.bytes.now) (list + suc j) _ _ (formed table.bytes.now table.form).ascends stands
