-- The records from a key on: what is left of a store behind the records with lower keys says the same of every key from there on.
-- And the records from a number on: the first of them has its value in the store.
use Rattle.std.proofs.Common.{ℕ, zero, suc, ◌≤◌, arith, ◌≡◌, refl, ◌∙◌, [], ◌∷◌, drop}
use Rattle.rules.specs.Table.{Record, Store, get, Ascending}
use Rattle.laws.proofs.Stores.{get-here, get-past, ascending-lower}
use Rattle.finding.specs.Finding.{keys_below}
use Rattle.finding.proofs.Places.{below_or_not, below-past, below-here, ascending-drop, Standing, present, absent, standing}

pub behind-ascends : (s : Store) (k : ℕ) → Ascending 0 s → Ascending k (drop (keys_below s k) s)
behind-ascends s k a = go (standing s k a)
  where
    go : Standing s k (keys_below s k) → Ascending k (drop (keys_below s k) s)
    go (present p) =
        let from = rw p.here at (ascending-drop 0 s (keys_below s k) a) in
        rw p.here (omega arith, from.1, from.2)
    go (absent p) = ascending-lower k _ (drop (keys_below s k) s) (omega arith) p.higher

pub behind-same : (s : Store) (low k : ℕ) → low ≤ k → get s k ≡ get (drop (keys_below s low) s) k
unfolding keys_below
behind-same [] low k h = refl
behind-same (r ∷ s) low k h =
    below_or_not r low
    (λ l. rw (below-past r s low l) (get-past r s k (λ q. omega (arith, q, l)) ∙ behind-same s low k h))
    (λ l. rw (below-here r s low l))

pub record-holds : (low : ℕ) (s : Store) (i : ℕ) (r : Record) (rest : Store) → Ascending low s → drop i s ≡ r ∷ rest → get s r.key ≡ r.value
record-holds low [] zero r rest a q = let z : ◌≡◌ {A = ℕ} 0 1 = cc in absurd (omega arith)
record-holds low [] (suc i) r rest a q = let z : ◌≡◌ {A = ℕ} 0 1 = cc in absurd (omega arith)
record-holds low (f ∷ s) zero r rest a q = let e : f ≡ r = cc in rw e (get-here r s r.key refl)
record-holds low (f ∷ s) (suc i) r rest a q =
    let lower : Ascending (suc f.key) (r ∷ rest) = rw q at (ascending-drop (suc f.key) s i a.2) in
    get-past f s r.key (λ e. omega (arith, e, lower.0)) ∙ record-holds (suc f.key) s i r rest a.2 q
