-- The index records of a store, which are as many as its procedures: a part of it that says the same of every procedure's index.
use Rattle.std.proofs.Common.{ℕ, suc, ◌%◌, ◌^◌, ◌≤◌, ◌<◌, arith, ◌≡◌, refl, sym, ◌∙◌, ◌≢◌, ◌⊎◌, inl, inr, [], ◌∷◌, Bool, true, false, ◌&&◌, eqb, ltb, eq-eqb, lt-ltb}
use Rattle.rules.specs.Words.{Every}
use Rattle.rules.specs.Table.{Record, Store, get, Ascending}
use Rattle.rules.specs.KernelStorage.{length_slot}
use Rattle.laws.proofs.Bools.{decide-false, and_both, tests-true}
use Rattle.laws.proofs.Numbers.{same_or_not}
use Rattle.laws.proofs.Stores.{get-here, get-past, ascending-lower}
use Rattle.walks.specs.Walks.{pick}

unfoldable pub is_index : ℕ → Bool
is_index k = eqb (k % 256 ^ 3) 1 && ltb k length_slot

unfoldable pub indexes_of : Store → Store
indexes_of [] = []
indexes_of (r ∷ s) = let more = indexes_of s in pick (is_index r.key) (r ∷ more) more

module _ (r : Record) (s : Store) where
  taken : is_index r.key ≡ true → indexes_of (r ∷ s) ≡ r ∷ indexes_of s
  unfolding indexes_of pick
  taken q = rw q

  left : is_index r.key ≡ false → indexes_of (r ∷ s) ≡ indexes_of s
  unfolding indexes_of pick
  left q = rw q

  -- either way
  taken-or-left : (P : Store → Type 0) → (is_index r.key ≡ true → P (r ∷ indexes_of s)) → (is_index r.key ≡ false → P (indexes_of s))
      → P (indexes_of (r ∷ s))
  taken-or-left P f g = go (is_index r.key) refl
    where
      go : (b : Bool) → is_index r.key ≡ b → P (indexes_of (r ∷ s))
      go true q = rw (taken q) (f q)
      go false q = rw (left q) (g q)

  pub index-taken : r.key % 256 ^ 3 ≡ 1 → r.key < length_slot → indexes_of (r ∷ s) ≡ r ∷ indexes_of s
  unfolding is_index
  index-taken e l = taken (and_both _ _ (eq-eqb _ _ e) (lt-ltb _ _ l))

  pub other-left : r.key % 256 ^ 3 ≢ 1 → indexes_of (r ∷ s) ≡ indexes_of s
  unfolding is_index
  other-left d = left (decide-false _ (λ q. d (search tests-true)))

-- from the list length on there is none
pub no-indexes : (low : ℕ) (s : Store) → Ascending low s → length_slot ≤ low → indexes_of s ≡ []
unfolding indexes_of is_index
no-indexes low [] a h = refl
no-indexes low (r ∷ s) a h =
    left r s (decide-false _ (λ q. let l : r.key < length_slot = search tests-true in omega (arith, a.0)))
    ∙ no-indexes (suc r.key) s a.2 (omega (arith, a.0))

pub indexes-ascend : (low : ℕ) (s : Store) → Ascending low s → Ascending low (indexes_of s)
unfolding indexes_of
indexes-ascend low [] a = tt
indexes-ascend low (r ∷ s) a =
    let more = indexes-ascend (suc r.key) s a.2 in
    taken-or-left r s (Ascending low) (λ q. (a.0, a.1, more)) (λ q. ascending-lower low (suc r.key) (indexes_of s) (omega (arith, a.0)) more)

-- what holds of every record holds of these, which have an index's key
pub indexes-each : (P Q : Record → Type 0) → ((r : Record) → r.key % 256 ^ 3 ≡ 1 → r.key < length_slot → P r → Q r)
    → (s : Store) → Every P s → Every Q (indexes_of s)
unfolding indexes_of
indexes-each P Q f [] h = tt
indexes-each P Q f (r ∷ s) h =
    let more = indexes-each P Q f s h.1 in
    taken-or-left r s (Every Q) (λ q. (unfold is_index in (f r (search tests-true) (search tests-true) h.0), more)) (λ q. more)

pub indexes-same : (s : Store) (k : ℕ) → k % 256 ^ 3 ≡ 1 → k < length_slot → get (indexes_of s) k ≡ get s k
unfolding indexes_of
indexes-same [] k e l = refl
indexes-same (r ∷ s) k e l = go (same_or_not k r.key) (indexes-same s k e l)
  where
    go : (k ≡ r.key) ⊎ (k ≢ r.key) → get (indexes_of s) k ≡ get s k → get (indexes_of (r ∷ s)) k ≡ get (r ∷ s) k
    go (inl q) more = rw (index-taken r s (rw q at e) (rw q at l)) (get-here r (indexes_of s) k q ∙ sym (get-here r s k q))
    go (inr d) more =
        taken-or-left r s (λ t. get t k ≡ get (r ∷ s) k)
        (λ q. get-past r (indexes_of s) k d ∙ more ∙ sym (get-past r s k d)) (λ q. more ∙ sym (get-past r s k d))
