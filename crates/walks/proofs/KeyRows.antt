-- Ascending records and a row of rising keys: the records have these keys when each of the keys is present and no other is.
-- The first record then has the first key, since neither can be lower than the other.
use Rattle.std.proofs.Common.{ℕ, suc, ◌≤◌, arith, ◌≡◌, refl, sym, ◌∙◌, ◌≢◌, inl, inr, List, [], ◌∷◌, Bool, true, false, true≢false, ltb, eq-eqb, ltb-true, ltb-false}
use Rattle.rules.specs.Words.{Every, OneOf}
use Rattle.rules.specs.Table.{Record, Store, get, Ascending}
use Rattle.laws.proofs.Bools.{and_both, tests-true}
use Rattle.laws.proofs.Lists.{every_map}
use Rattle.laws.proofs.Stores.{get_none, get-here, get-past, get-below}
use Rattle.walks.specs.Walks.{keys_are}
use Rattle.walks.proofs.Counting.{every-both, keys_from_lem}

-- from the test to what it says
pub keys-each : (s : Store) (ks : List ℕ) → keys_are s ks ≡ true → Every (λ (r : Record). OneOf r.key ks) s
unfolding keys_are
keys-each [] ks q = tt
keys-each (r ∷ s) [] q = absurd (true≢false (sym q))
keys-each (r ∷ s) (k ∷ ks) q =
    (inl (search tests-true), every_map _ _ (λ x i. inr i) s (keys-each s ks (search tests-true)))

pub keys-present : (low : ℕ) (s : Store) (ks : List ℕ) → Ascending low s → keys_are s ks ≡ true → (k : ℕ) → OneOf k ks → get s k ≢ 0
unfolding keys_are
keys-present low [] [] a q k i z = absurd i
keys-present low [] (x ∷ ks) a q k i z = true≢false (sym q)
keys-present low (r ∷ s) [] a q k i z = absurd i
keys-present low (r ∷ s) (x ∷ ks) a q k (inl e) z =
    let first : r.key ≡ x = search tests-true in
    omega (arith, a.1, get-here r s k (e ∙ sym first))
keys-present low (r ∷ s) (x ∷ ks) a q k (inr i) z =
    let later = keys-present (suc r.key) s ks a.2 (search tests-true) k i in
    later (go (ltb r.key k) refl)
  where
    go : (b : Bool) → ltb r.key k ≡ b → get s k ≡ 0
    go true h = let above = ltb-true r.key k h in sym (get-past r s k (λ e. omega arith)) ∙ z
    go false h = let below = ltb-false r.key k h in get-below (suc r.key) s k a.2 (omega arith)

-- and back, for keys that rise
abbrev pub Rises : (low : ℕ) → List ℕ → Type 0
Rises low [] = Unit {0}
Rises low (k ∷ ks) = (low ≤ k) × Rises (suc k) ks

pub rises-lower : (low low' : ℕ) (ks : List ℕ) → low ≤ low' → Rises low' ks → Rises low ks
rises-lower low low' [] h r = tt
rises-lower low low' (k ∷ ks) h r = (omega (arith, r.0), r.1)

rises-each : (low : ℕ) (ks : List ℕ) → Rises low ks → Every (λ k. low ≤ k) ks
rises-each low [] r = tt
rises-each low (k ∷ ks) r = (r.0, every_map _ _ (λ x h. omega (arith, r.0)) ks (rises-each (suc k) ks r.1))

one_from : (low : ℕ) (ks : List ℕ) → Rises low ks → (k : ℕ) → OneOf k ks → low ≤ k
one_from low [] r k i = absurd i
one_from low (x ∷ ks) r k (inl e) = omega (arith, r.0)
one_from low (x ∷ ks) r k (inr i) = omega (arith, r.0, one_from (suc x) ks r.1 k i)

pub keys-same : (low : ℕ) (s : Store) (ks : List ℕ) → Ascending low s → Rises low ks
    → Every (λ k. get s k ≢ 0) ks → Every (λ (r : Record). OneOf r.key ks) s → keys_are s ks ≡ true
unfolding keys_are
keys-same low [] [] a r has only = refl
keys-same low [] (k ∷ ks) a r has only = absurd (has.0 (get_none k))
keys-same low (e ∷ s) [] a r has only = absurd only.0
keys-same low (e ∷ s) (k ∷ ks) a r has only =
    and_both _ _ (eq-eqb _ _ first)
    (keys-same (suc k) s ks (rw first at a.2) r.1
    (every_map _ _ behind ks (every-both _ _ ks (rises-each (suc k) ks r.1) has.1))
    (every_map _ _ later s (every-both _ _ s (keys_from_lem (suc e.key) s a.2 (suc e.key) (omega arith)) only.1)))
  where
    least : k ≤ e.key
    least = one_from k (k ∷ ks) (omega arith, r.1) e.key only.0

    first : e.key ≡ k
    first = go (ltb k e.key) refl
      where
        go : (b : Bool) → ltb k e.key ≡ b → e.key ≡ k
        go true h = let l = ltb-true k e.key h in absurd (has.0 (get-below e.key (e ∷ s) k (omega arith, a.1, a.2) l))
        go false h = omega (arith, ltb-false k e.key h, least)

    behind : (x : ℕ) → (suc k ≤ x) × (get (e ∷ s) x ≢ 0) → get s x ≢ 0
    behind x h z = h.1 (get-past e s x (λ q. omega (arith, first, h.0)) ∙ z)

    later : (x : Record) → (suc e.key ≤ x.key) × OneOf x.key (k ∷ ks) → OneOf x.key ks
    later x (h, inl q) = absurd (omega (arith, first))
    later x (h, inr i) = i
