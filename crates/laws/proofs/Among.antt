-- Records stored among others. A store is cut in two where their keys would stand: those behind have higher keys, so they stay as
-- they are, and the records are stored in what is before them.
use Prim.Native.Nat.{ℕ, zero, suc, ◌≤◌, ◌<◌}
use native.Mathlib.Omega.{arith}
use mathlib.Core.Path.{◌≡◌, refl, sym, ap, ◌∙◌}
use mathlib.Core.Logic.{◌≢◌, ◌⊎◌, inl, inr}
use mathlib.Core.List.{List, [], ◌∷◌, ◌++◌}
use lib.ListN.{drop}
use Rattle.rules.specs.Words.{Every}
use Rattle.rules.specs.Table.{Record, Store, get, put, puts, record_before, Ascending}
use Rattle.laws.proofs.Numbers.{same_or_not, Order, less, equal, more, order}
use Rattle.laws.proofs.Lists.{every_drop}
use Rattle.laws.proofs.Stores.{get_none, get-here, get-past, ascending-lower, put-before, put-at, put-after, put_first, records-present}

record_before-among : (k v : ℕ) (a b : Store) → record_before k v (a ++ b) ≡ record_before k v a ++ b
unfolding record_before
record_before-among k zero a b = refl
record_before-among k (suc v) a b = refl

put-among : (a b : Store) (k v : ℕ) → Ascending (suc k) b → put (a ++ b) k v ≡ put a k v ++ b
unfolding put
put-among [] b k v h = put_first b k v h ∙ record_before-among k v [] b
put-among (r ∷ a) b k v h = go (order k r.key) (put-among a b k v h)
  where
    go : Order k r.key → put (a ++ b) k v ≡ put a k v ++ b → put (r ∷ (a ++ b)) k v ≡ put (r ∷ a) k v ++ b
    go (less l) later = put-before r (a ++ b) k v l ∙ record_before-among k v (r ∷ a) b ∙ ap (λ (x : Store). x ++ b) (sym (put-before r a k v l))
    go (equal l) later = put-at r (a ++ b) k v l ∙ record_before-among k v a b ∙ ap (λ (x : Store). x ++ b) (sym (put-at r a k v l))
    go (more l) later = put-after r (a ++ b) k v l ∙ ap (λ (x : Store). r ∷ x) later ∙ ap (λ (x : Store). x ++ b) (sym (put-after r a k v l))

pub puts-among : (high : ℕ) (a b : Store) (rs : List Record) → Every (λ r. r.key < high) rs → Ascending high b
    → puts (a ++ b) rs ≡ puts a rs ++ b
unfolding puts
puts-among high a b [] l h = refl
puts-among high a b (r ∷ rs) l h =
    ap (λ (x : Store). puts x rs) (put-among a b r.key r.value (ascending-lower (suc r.key) high b l.0 h))
    ∙ puts-among high (put a r.key r.value) b rs l.1 h

-- a key that is absent is absent from the first of the two
pub absent-before : (low : ℕ) (a b : Store) (k : ℕ) → Ascending low (a ++ b) → get (a ++ b) k ≡ 0 → get a k ≡ 0
absent-before low [] b k h z = get_none k
absent-before low (r ∷ a) b k h z = go (same_or_not k r.key) (absent-before (suc r.key) a b k h.2)
  where
    go : (k ≡ r.key) ⊎ (k ≢ r.key) → (get (a ++ b) k ≡ 0 → get a k ≡ 0) → get (r ∷ a) k ≡ 0
    go (inl q) later = absurd (omega (arith, sym (get-here r (a ++ b) k q) ∙ z, h.1))
    go (inr n) later = get-past r a k n ∙ later (sym (get-past r (a ++ b) k n) ∙ z)

-- where no key from low on and below high is present, the records from low on are those from high on
pub none_between : (low high i : ℕ) (s : Store) → Ascending 0 s → Ascending low (drop i s)
    → ((k : ℕ) → low ≤ k → k < high → get s k ≡ 0) → Ascending high (drop i s)
none_between low high i s a from none = go (drop i s) from (every_drop (λ r. get s r.key ≢ 0) i s (records-present 0 s a))
  where
    go : (d : Store) → Ascending low d → Every (λ r. get s r.key ≢ 0) d → Ascending high d
    go [] h present = tt
    go (r ∷ d) h present = by (order r.key high)
      where
        by : Order r.key high → Ascending high (r ∷ d)
        by (less l) = absurd (present.0 (none r.key h.0 l))
        by (equal q) = (omega arith, h.1, h.2)
        by (more l) = (omega arith, h.1, h.2)
