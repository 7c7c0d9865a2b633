-- Where a key stands in an ascending store, and what `get` and `put` do there.
-- All records before the place have lower keys, so both walk past them; from the place on no key is lower.
use Rattle.std.proofs.Common.{ℕ, zero, suc, ◌+◌, ◌≤◌, ◌<◌, arith, add-one, ◌≡◌, refl, sym, ap, ◌∙◌, [], ◌∷◌, ◌++◌, Bool, true, false, ltb, length, take, drop, length-drop, drop-drop, eq-eqb, lt-ltb, le-ltb, ltb-true, ltb-false, Ok, Err}
use Rattle.rules.specs.Words.{Every}
use Rattle.rules.specs.Table.{Record, ◌holds◌, Store, get, record_before, put, Ascending}
use Rattle.laws.proofs.Numbers.{Order, less, equal, more, order}
use Rattle.laws.proofs.Lists.{every_map}
use Rattle.laws.proofs.Stores.{get-here, get-past, get-below, put_first, ascending-lower, put-after}
use Rattle.finding.specs.Finding.{keys_below, place_of}

-- a record's key is below k, or not
pub below_or_not : {P : Type 0} (r : Record) (k : ℕ) → (r.key < k → P) → (k ≤ r.key → P) → P
below_or_not {P} r k lower other = go (ltb r.key k) refl
  where
    go : (b : Bool) → ltb r.key k ≡ b → P
    go true q = lower (ltb-true r.key k q)
    go false q = other (ltb-false r.key k q)

pub below-past : (r : Record) (s : Store) (k : ℕ) → r.key < k → keys_below (r ∷ s) k ≡ suc (keys_below s k)
unfolding keys_below
below-past r s k h = rw (lt-ltb r.key k h, keys_below)

pub below-here : (r : Record) (s : Store) (k : ℕ) → k ≤ r.key → keys_below (r ∷ s) k ≡ 0
unfolding keys_below
below-here r s k h = rw (le-ltb r.key k h, keys_below)

put-here : (k v w : ℕ) (s : Store) → put (k holds v ∷ s) k w ≡ record_before k w s
unfolding put
put-here k v w s = rw (le-ltb k k (omega arith), put) (rw (eq-eqb k k refl))

-- a record of a list, by what is left from it on
drop-some : (s : Store) (i : ℕ) (r : Record) (rest : Store) → drop i s ≡ r ∷ rest → i < length s
drop-some s i r rest q = let h = ap length q in omega (arith, h, length-drop i s)

drop-next : (s : Store) (i : ℕ) (r : Record) (rest : Store) → drop i s ≡ r ∷ rest → rest ≡ drop (suc i) s
drop-next s i r rest q = ap (drop 1) (sym q) ∙ drop-drop 1 i s ∙ rw add-one

-- up to the place
pub below_length : (s : Store) (k : ℕ) → keys_below s k ≤ length s
unfolding keys_below
below_length [] k = omega arith
below_length (r ∷ s) k =
    let later = below_length s k in
    below_or_not r k (λ h. rw (below-past r s k h) (omega arith)) (λ h. rw (below-here r s k h) (omega arith))

-- the records before the place have lower keys; from a place on with no lower key, none is counted
lower-before : (s : Store) (k : ℕ) → Every (λ (r : Record). r.key < k) (take (keys_below s k) s)
unfolding keys_below
lower-before [] k = tt
lower-before (r ∷ s) k =
    below_or_not r k (λ h. rw (below-past r s k h) (h, lower-before s k)) (λ h. rw (below-here r s k h) tt)

pub below_none : (s : Store) (k : ℕ) → Ascending k s → keys_below s k ≡ 0
unfolding keys_below
below_none [] k a = refl
below_none (r ∷ s) k a = below-here r s k a.0

below-skips : (s : Store) (k i : ℕ) → i ≤ length s → Every (λ (r : Record). r.key < k) (take i s) → keys_below s k ≡ i + keys_below (drop i s) k
below-skips s k zero h e = omega arith
below-skips [] k (suc i) h e = absurd (omega arith)
below-skips (r ∷ s) k (suc i) h e = below-past r s k e.0 ∙ omega (arith, below-skips s k i (omega arith) e.1)

get_from : (s : Store) (k : ℕ) → get s k ≡ get (drop (keys_below s k) s) k
unfolding keys_below
get_from [] k = refl
get_from (r ∷ s) k =
    below_or_not r k
    (λ h. rw (below-past r s k h) (get-past r s k (λ q. omega (arith, q, h)) ∙ get_from s k))
    (λ h. rw (below-here r s k h))

put-from : (s : Store) (k v : ℕ) → put s k v ≡ take (keys_below s k) s ++ put (drop (keys_below s k) s) k v
unfolding keys_below
put-from [] k v = refl
put-from (r ∷ s) k v =
    below_or_not r k
    (λ h. rw (below-past r s k h, put-after r s k v h) (ap (λ (x : Store). r ∷ x) (put-from s k v)))
    (λ h. rw (below-here r s k h))

ascending-from : (low : ℕ) (s : Store) (k : ℕ) → Ascending low s → Ascending k (drop (keys_below s k) s)
unfolding keys_below
ascending-from low [] k a = tt
ascending-from low (r ∷ s) k a =
    below_or_not r k
    (λ h. rw (below-past r s k h) (ascending-from (suc r.key) s k a.2))
    (λ h. rw (below-here r s k h) (h, a.1, a.2))

-- a record with a lower key stands before the place, any other does not
pub ascending-drop : (low : ℕ) (s : Store) (i : ℕ) → Ascending low s → Ascending low (drop i s)
ascending-drop low s zero a = a
ascending-drop low [] (suc i) a = tt
ascending-drop low (r ∷ s) (suc i) a = ascending-lower low (suc r.key) (drop i s) (omega (arith, a.0)) (ascending-drop (suc r.key) s i a.2)

pub place_after : (low : ℕ) (s : Store) (k i : ℕ) (r : Record) (rest : Store) → Ascending low s → drop i s ≡ r ∷ rest → r.key < k → i < keys_below s k
place_after low [] k zero r rest a q h = let z : ◌≡◌ {A = ℕ} 0 1 = cc in absurd (omega arith)
place_after low [] k (suc i) r rest a q h = let z : ◌≡◌ {A = ℕ} 0 1 = cc in absurd (omega arith)
place_after low (f ∷ s) k zero r rest a q h = let e : f.key ≡ r.key = cc in rw (below-past f s k (omega arith)) (omega arith)
place_after low (f ∷ s) k (suc i) r rest a q h =
    let lower : Ascending (suc f.key) (r ∷ rest) = rw q at (ascending-drop (suc f.key) s i a.2) in
    rw (below-past f s k (omega (arith, lower.0))) (omega (arith, place_after (suc f.key) s k i r rest a.2 q h))

pub place-before : (s : Store) (k i : ℕ) (r : Record) (rest : Store) → drop i s ≡ r ∷ rest → k ≤ r.key → keys_below s k ≤ i
unfolding keys_below
place-before [] k i r rest q h = omega arith
place-before (f ∷ s) k zero r rest q h = let e : f.key ≡ r.key = cc in rw (below-here f s k (omega arith)) (omega arith)
place-before (f ∷ s) k (suc i) r rest q h =
    let later = place-before s k i r rest q h in
    below_or_not f k (λ l. rw (below-past f s k l) (omega arith)) (λ l. rw (below-here f s k l) (omega arith))

-- At the place: the key's record stands there, with what `get` says and where `put` writes; or it would.
pub record Present (s : Store) (k i : ℕ) : Type 0 where
  pub place : i ≡ keys_below s k
  pub inside : i < length s
  pub here : drop i s ≡ k holds get s k ∷ drop (suc i) s
  pub some : 1 ≤ get s k
  pub puts : (v : ℕ) → put s k v ≡ take i s ++ record_before k v (drop (suc i) s)

pub record Absent (s : Store) (k i : ℕ) : Type 0 where
  pub place : i ≡ keys_below s k
  pub inside : i ≤ length s
  pub higher : Ascending (suc k) (drop i s)
  pub none : get s k ≡ 0
  pub puts : (v : ℕ) → put s k v ≡ take i s ++ record_before k v (drop i s)

pub data Standing (s : Store) (k i : ℕ) : Type 0 where
  present : Present s k i → Standing s k i
  absent : Absent s k i → Standing s k i

pub standing : (s : Store) (k : ℕ) → Ascending 0 s → Standing s k (keys_below s k)
standing s k a = go (drop at s) refl (ascending-from 0 s k a)
  where
    at : ℕ
    at = keys_below s k

    gone : Ascending (suc k) (drop at s) → Standing s k at
    gone h =
        absent (record {
          place = refl;
          inside = below_length s k;
          higher = h;
          none = get_from s k ∙ get-below (suc k) (drop at s) k h (omega arith);
          puts = λ w. put-from s k w ∙ ap (λ (x : Store). take at s ++ x) (put_first (drop at s) k w h);
        })

    there : (r : Record) → k ≡ r.key → 1 ≤ r.value → drop at s ≡ r ∷ drop (suc at) s → Standing s k at
    there r e l h =
        present (record {
          place = refl;
          inside = drop-some s at r (drop (suc at) s) h;
          here = whole ∙ rw value;
          some = rw value l;
          puts = λ w. put-from s k w ∙ ap (λ (x : Store). take at s ++ put x k w) whole ∙ ap (λ (x : Store). take at s ++ x) (put-here k r.value w (drop (suc at) s));
        })
      where
        whole : drop at s ≡ k holds r.value ∷ drop (suc at) s
        whole = h ∙ ap (λ (x : ℕ). x holds r.value ∷ drop (suc at) s) (sym e)

        value : get s k ≡ r.value
        value = get_from s k ∙ ap (λ (x : Store). get x k) h ∙ get-here r (drop (suc at) s) k e

    go : (d : Store) → drop at s ≡ d → Ascending k d → Standing s k at
    go [] q h = gone (rw q tt)
    go (r ∷ d) q h = by (order k r.key)
      where
        by : Order k r.key → Standing s k at
        by (less l) = gone (rw q (l, h.1, h.2))
        by (equal e) = there r e h.1 (q ∙ ap (λ (x : Store). r ∷ x) (drop-next s at r d q))
        by (more l) = absurd (omega (arith, h.0))

-- the answer of `find`
pub place-has : {s : Store} {k i : ℕ} → Present s k i → place_of s k ≡ Ok i
unfolding place_of
place-has {s} {k} {i} p = go (get s k) refl
  where
    go : (v : ℕ) → get s k ≡ v → place_of s k ≡ Ok i
    go zero q = absurd (omega (arith, p.some))
    go (suc v) q = rw (q, place_of) (rw p.place)

pub place-gap : {s : Store} {k i : ℕ} → Absent s k i → place_of s k ≡ Err i
unfolding place_of
place-gap p = rw (p.none, place_of) (rw p.place)

-- how many keys are at most k
lower-still : (s : Store) (k i : ℕ) → i ≡ keys_below s k → Every (λ (r : Record). r.key < k + 1) (take i s)
lower-still s k i q = rw q (every_map _ _ (λ (r : Record) (h : r.key < k). omega arith) (take (keys_below s k) s) (lower-before s k))

pub through-present : {s : Store} {k i : ℕ} → Ascending 0 s → Present s k i → i + 1 ≡ keys_below s (k + 1)
through-present {s} {k} {i} a p =
    sym (below-skips s (k + 1) i (omega (arith, p.inside)) (lower-still s k i p.place) ∙ ap (λ (n : ℕ). i + n) one)
  where
    from : Ascending 0 (k holds get s k ∷ drop (suc i) s)
    from = rw p.here at (ascending-drop 0 s i a)

    one : keys_below (drop i s) (k + 1) ≡ 1
    one =
        rw p.here
        (below-past (k holds get s k) (drop (suc i) s) (k + 1) (omega arith) ∙ ap suc (below_none (drop (suc i) s) (k + 1) (rw add-one from.2)))

pub through-absent : {s : Store} {k i : ℕ} → Absent s k i → i ≡ keys_below s (k + 1)
through-absent {s} {k} {i} p =
    let none = below_none (drop i s) (k + 1) (rw add-one p.higher) in
    omega (arith, below-skips s (k + 1) i p.inside (lower-still s k i p.place))
