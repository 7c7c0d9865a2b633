-- The laws of a store: what `get` says after `put` and `puts`, how many records there are, and that a store is known by its gets.
-- Most walk the store with `put-cases`: at a record, `put` stores before it, in its place, or further on.
use Prim.Native.Nat.{ℕ, zero, suc, ◌≤◌, ◌<◌}
use native.Mathlib.Omega.{arith}
use mathlib.Core.Path.{◌≡◌, refl, sym, ap, ◌∙◌}
use mathlib.Core.Logic.{◌≢◌, ◌⊎◌, inl, inr}
use mathlib.Core.List.{List, [], ◌∷◌, ◌++◌}
use mathlib.Core.Bool.{true, false}
use lib.Dec.{eqb}
use lib.ListN.{length}
use borrow.Author.Tests.{eq-eqb, ne_eqb, lt-ltb, le-ltb}
use Rattle.rules.specs.Words.{Every}
use Rattle.rules.specs.Table.{Record, ◌holds◌, Store, get, record_before, put, puts, Ascending}
use Rattle.laws.proofs.Numbers.{same_or_not, Order, less, equal, more, order}
use Rattle.laws.proofs.Lists.{every_map}

-- `get`, by the first record.
pub get_none : (k : ℕ) → get [] k ≡ 0
unfolding get
get_none k = refl

pub get-here : (e : Record) (s : Store) (k : ℕ) → k ≡ e.key → get (e ∷ s) k ≡ e.value
unfolding get
get-here e s k q = rw (eq-eqb k e.key q, get)

pub get-past : (e : Record) (s : Store) (k : ℕ) → (k ≡ e.key → ⊥) → get (e ∷ s) k ≡ get s k
unfolding get
get-past e s k q = rw (ne_eqb k e.key q, get)

get-behind : (e : Record) (s s' : Store) (k : ℕ) → get s k ≡ get s' k → get (e ∷ s) k ≡ get (e ∷ s') k
unfolding get
get-behind e s s' k q = ap (λ (x : ℕ). elim (eqb k e.key) [ true ↦ e.value | false ↦ x ]) q

-- below the first key nothing is present
pub get-below : (low : ℕ) (s : Store) (k : ℕ) → Ascending low s → k < low → get s k ≡ 0
get-below low [] k a h = get_none k
get-below low (e ∷ s) k a h = get-past e s k (λ q. omega arith) ∙ get-below (suc e.key) s k a.2 (omega arith)

get_below_first : (low : ℕ) (e : Record) (s : Store) (k : ℕ) → Ascending low (e ∷ s) → k < e.key → get (e ∷ s) k ≡ 0
get_below_first low e s k a h = get-below e.key (e ∷ s) k (omega arith, a.1, a.2) h

-- the first key is present
first-present : (low : ℕ) (e : Record) (s : Store) → Ascending low (e ∷ s) → get (e ∷ s) e.key ≢ 0
first-present low e s a z = omega (arith, get-here e s e.key refl)

-- A record that goes before others.
pub record_before-present : (k v : ℕ) (s : Store) → 1 ≤ v → record_before k v s ≡ k holds v ∷ s
unfolding record_before
record_before-present k zero s h = absurd (omega arith)
record_before-present k (suc v) s h = refl

pub get-record_before : (k v : ℕ) (s : Store) → get s k ≡ 0 → get (record_before k v s) k ≡ v
unfolding record_before
get-record_before k zero s h = h
get-record_before k (suc v) s h = get-here (k holds suc v) s k refl

pub get-record_before-other : (k v : ℕ) (s : Store) (j : ℕ) → (j ≡ k → ⊥) → get (record_before k v s) j ≡ get s j
unfolding record_before
get-record_before-other k zero s j h = refl
get-record_before-other k (suc v) s j h = get-past (k holds suc v) s j h

record_before-ascending : (low k v : ℕ) (s : Store) → low ≤ k → Ascending (suc k) s → Ascending low s → Ascending low (record_before k v s)
unfolding record_before
record_before-ascending low k zero s h a b = b
record_before-ascending low k (suc v) s h a b = (h, omega arith, a)

record_before-length : (k v : ℕ) (s : Store) → length (record_before k v s) ≤ suc (length s)
unfolding record_before
record_before-length k zero s = omega arith
record_before-length k (suc v) s = omega arith

-- `put`, by the first record: before it, in its place, or further on.
put-none : (k v : ℕ) → put [] k v ≡ record_before k v []
unfolding put
put-none k v = refl

pub put-before : (e : Record) (s : Store) (k v : ℕ) → k < e.key → put (e ∷ s) k v ≡ record_before k v (e ∷ s)
unfolding put
put-before e s k v h = rw (le-ltb e.key k (omega arith), put) (rw (ne_eqb k e.key (λ q. omega arith)))

pub put-at : (e : Record) (s : Store) (k v : ℕ) → k ≡ e.key → put (e ∷ s) k v ≡ record_before k v s
unfolding put
put-at e s k v h = rw (le-ltb e.key k (omega arith), put) (rw (eq-eqb k e.key h))

pub put-after : (e : Record) (s : Store) (k v : ℕ) → e.key < k → put (e ∷ s) k v ≡ e ∷ put s k v
unfolding put
put-after e s k v h = rw (lt-ltb e.key k h, put)

put-cases : (P : Store → Type 0) (e : Record) (s : Store) (k v : ℕ)
    → (k < e.key → P (record_before k v (e ∷ s))) → (k ≡ e.key → P (record_before k v s)) → (e.key < k → P (e ∷ put s k v))
    → P (put (e ∷ s) k v)
put-cases P e s k v before at after = go (order k e.key)
  where
    go : Order k e.key → P (put (e ∷ s) k v)
    go (less h) = rw (put-before e s k v h) (before h)
    go (equal h) = rw (put-at e s k v h) (at h)
    go (more h) = rw (put-after e s k v h) (after h)

-- Records stay in ascending order.
pub ascending-lower : (low low' : ℕ) (s : Store) → low ≤ low' → Ascending low' s → Ascending low s
ascending-lower low low' [] h a = tt
ascending-lower low low' (e ∷ s) h a = (omega arith, a.1, a.2)

pub put-ascending : (low : ℕ) (s : Store) (k v : ℕ) → low ≤ k → Ascending low s → Ascending low (put s k v)
put-ascending low [] k v h a = rw (put-none k v) (record_before-ascending low k v [] h tt tt)
put-ascending low (e ∷ s) k v h a =
    put-cases (Ascending low) e s k v
    (λ l. record_before-ascending low k v (e ∷ s) h (l, a.1, a.2) a)
    (λ q. record_before-ascending low k v s h (lower (suc k) (omega arith)) (lower low (omega arith)))
    (λ l. (a.0, a.1, put-ascending (suc e.key) s k v l a.2))
  where
    lower : (x : ℕ) → x ≤ suc e.key → Ascending x s
    lower x l = ascending-lower x (suc e.key) s l a.2

-- The laws of get and put: a key holds what was stored last, and every other key what it held.
pub get-put-same : (low : ℕ) (s : Store) (k v : ℕ) → Ascending low s → get (put s k v) k ≡ v
get-put-same low [] k v a = rw (put-none k v) (get-record_before k v [] (get_none k))
get-put-same low (e ∷ s) k v a =
    put-cases (λ t. get t k ≡ v) e s k v
    (λ l. get-record_before k v (e ∷ s) (get_below_first low e s k a l))
    (λ q. get-record_before k v s (get-below (suc e.key) s k a.2 (omega arith)))
    (λ l. get-past e (put s k v) k (λ q. omega arith) ∙ get-put-same (suc e.key) s k v a.2)

pub get-put-other : (s : Store) (k v j : ℕ) → (j ≡ k → ⊥) → get (put s k v) j ≡ get s j
get-put-other [] k v j d = rw (put-none k v) (get-record_before-other k v [] j d)
get-put-other (e ∷ s) k v j d =
    put-cases (λ t. get t j ≡ get (e ∷ s) j) e s k v
    (λ l. get-record_before-other k v (e ∷ s) j d)
    (λ q. get-record_before-other k v s j d ∙ sym (get-past e s j (λ p. d (p ∙ sym q))))
    (λ l. get-behind e (put s k v) s j (get-put-other s k v j d))

-- Several stores.
pub puts-append : (s : Store) (a b : List Record) → puts s (a ++ b) ≡ puts (puts s a) b
unfolding puts
puts-append s [] b = refl
puts-append s (e ∷ a) b = puts-append (put s e.key e.value) a b

pub puts-ascending : (s : Store) (es : List Record) → Ascending 0 s → Ascending 0 (puts s es)
unfolding puts
puts-ascending s [] a = a
puts-ascending s (e ∷ es) a = puts-ascending (put s e.key e.value) es (put-ascending 0 s e.key e.value (omega arith) a)

-- no record of the list names the key
abbrev pub Misses : ℕ → List Record → Type 0
Misses k es = Every (λ e. k ≡ e.key → ⊥) es

-- what holds of the list's keys, and of every key that the list misses, holds of every key
pub hit-or-miss : (P : ℕ → Type 0) (es : List Record) → Every (λ e. P e.key) es → (k : ℕ) → (Misses k es → P k) → P k
hit-or-miss P [] h k missed = missed tt
hit-or-miss P (e ∷ es) h k missed = go (same_or_not k e.key) (hit-or-miss P es h.1 k)
  where
    go : (k ≡ e.key) ⊎ (k ≡ e.key → ⊥) → ((Misses k es → P k) → P k) → P k
    go (inl q) later = rw q h.0
    go (inr d) later = later (λ misses. missed (d, misses))

-- a key that the list misses keeps its value
pub get-puts-other : (s : Store) (es : List Record) (k : ℕ) → Misses k es → get (puts s es) k ≡ get s k
unfolding puts
get-puts-other s [] k m = refl
get-puts-other s (e ∷ es) k m =
    get-puts-other (put s e.key e.value) es k m.1 ∙ get-put-other s e.key e.value k m.0

-- the last record of the list that names the key decides
pub get-puts-last : (s : Store) (a : List Record) (e : Record) (b : List Record) → Ascending 0 s → Misses e.key b
    → get (puts s (a ++ e ∷ b)) e.key ≡ e.value
unfolding puts
get-puts-last s a e b h m =
    ap (λ t. get t e.key) (puts-append s a (e ∷ b))
    ∙ get-puts-other (put (puts s a) e.key e.value) b e.key m
    ∙ get-put-same 0 (puts s a) e.key e.value (puts-ascending s a h)

-- The number of records: storing adds at most one, and storing zero none.
pub put-length : (s : Store) (k v : ℕ) → length (put s k v) ≤ suc (length s)
put-length [] k v = rw (put-none k v) (record_before-length k v [])
put-length (e ∷ s) k v =
    put-cases (λ t. length t ≤ suc (length (e ∷ s))) e s k v
    (λ l. record_before-length k v (e ∷ s))
    (λ q. omega (arith, record_before-length k v s))
    (λ l. omega (arith, put-length s k v))

pub put-zero-length : (s : Store) (k : ℕ) → length (put s k 0) ≤ length s
unfolding record_before
put-zero-length [] k = rw (put-none k 0) (omega arith)
put-zero-length (e ∷ s) k =
    put-cases (λ t. length t ≤ length (e ∷ s)) e s k 0 (λ l. omega arith) (λ q. omega arith) (λ l. omega (arith, put-zero-length s k))

-- a record that is present makes way, or its value is replaced: no more records than before
pub put-shorter : (low : ℕ) (s : Store) (k : ℕ) → Ascending low s → (get s k ≡ 0 → ⊥) → suc (length (put s k 0)) ≡ length s
unfolding record_before
put-shorter low [] k a h = absurd (h (get_none k))
put-shorter low (e ∷ s) k a h =
    put-cases (λ t. suc (length t) ≡ length (e ∷ s)) e s k 0
    (λ l. absurd (h (get_below_first low e s k a l)))
    (λ q. refl)
    (λ l. ap suc (put-shorter (suc e.key) s k a.2 (λ z. h (get-past e s k (λ q. omega arith) ∙ z))))

pub put-no-longer : (low : ℕ) (s : Store) (k v : ℕ) → Ascending low s → (get s k ≡ 0 → ⊥) → length (put s k v) ≤ length s
put-no-longer low [] k v a h = absurd (h (get_none k))
put-no-longer low (e ∷ s) k v a h =
    put-cases (λ t. length t ≤ length (e ∷ s)) e s k v
    (λ l. absurd (h (get_below_first low e s k a l)))
    (λ q. record_before-length k v s)
    (λ l. omega (arith, put-no-longer (suc e.key) s k v a.2 (λ z. h (get-past e s k (λ q. omega arith) ∙ z))))

-- a key that is present stays so, whatever key another value than zero is stored at
pub put-present : (s : Store) (k v j : ℕ) → Ascending 0 s → v ≢ 0 → get s j ≢ 0 → get (put s k v) j ≢ 0
put-present s k v j a stored present z = go (same_or_not j k)
  where
    go : (j ≡ k) ⊎ (j ≢ k) → ⊥
    go (inl q) = stored (sym (get-put-same 0 s k v a) ∙ ap (get (put s k v)) (sym q) ∙ z)
    go (inr d) = present (sym (get-put-other s k v j d) ∙ z)

-- a value that is not zero never makes the store shorter
record_before-longer : (k v : ℕ) (s : Store) → 1 ≤ v → length (record_before k v s) ≡ suc (length s)
record_before-longer k v s h = rw (record_before-present k v s h)

pub put-no-shorter : (s : Store) (k v : ℕ) → 1 ≤ v → length s ≤ length (put s k v)
put-no-shorter [] k v h = omega arith
put-no-shorter (e ∷ s) k v h =
    put-cases (λ t. length (e ∷ s) ≤ length t) e s k v
    (λ l. omega (arith, record_before-longer k v (e ∷ s) h))
    (λ q. omega (arith, record_before-longer k v s h))
    (λ l. omega (arith, put-no-shorter s k v h))

-- at a key that is absent, zero changes nothing, and any other value is one record more
pub put-absent : (low : ℕ) (s : Store) (k v : ℕ) → Ascending low s → get s k ≡ 0 → length (put s k v) ≡ length (record_before k v s)
unfolding record_before
put-absent low [] k v a h = rw (put-none k v)
put-absent low (e ∷ s) k v a h =
    put-cases (λ t. length t ≡ length (record_before k v (e ∷ s))) e s k v
    (λ l. refl)
    (λ q. absurd (first-present low e s a (ap (get (e ∷ s)) (sym q) ∙ h)))
    (λ l. behind v (put-absent (suc e.key) s k v a.2 (sym (get-past e s k (λ q. omega arith)) ∙ h)))
  where
    behind : (x : ℕ) → length (put s k v) ≡ length (record_before k x s) → suc (length (put s k v)) ≡ length (record_before k x (e ∷ s))
    behind zero q = ap suc q
    behind (suc x) q = ap suc q

-- n different keys that are present: at least n records
pub pigeons : (n : ℕ) (f : ℕ → ℕ) (s : Store) → Ascending 0 s → ((i : ℕ) → i < n → get s (f i) ≡ 0 → ⊥)
    → ((i j : ℕ) → i < n → j < n → f i ≡ f j → i ≡ j) → n ≤ length s
pigeons zero f s a present apart = omega arith
pigeons (suc n) f s a present apart =
    let others = pigeons n f (put s (f n) 0) (put-ascending 0 s (f n) 0 (omega arith) a) still still-apart in
    omega (arith, put-shorter 0 s (f n) a (present n (omega arith)))
  where
    still-apart : (i j : ℕ) → i < n → j < n → f i ≡ f j → i ≡ j
    still-apart i j l m = apart i j (omega arith) (omega arith)

    still : (i : ℕ) → i < n → get (put s (f n) 0) (f i) ≡ 0 → ⊥
    still i l z =
        let other : f i ≡ f n → ⊥ = λ q. omega (arith, apart i n (omega arith) (omega arith) q) in
        present i (omega arith) (sym (get-put-other s (f n) 0 (f i) other) ∙ z)

-- Keys and records: a key that is present stands in a record, and the key of each record is present.
pub present-recorded : (P : ℕ → Type 0) (s : Store) → Every (λ r. P r.key) s → (k : ℕ) → get s k ≢ 0 → P k
present-recorded P [] h k d = absurd (d (get_none k))
present-recorded P (r ∷ s) h k d = go (same_or_not k r.key) (present-recorded P s h.1 k)
  where
    go : (k ≡ r.key) ⊎ (k ≢ r.key) → (get s k ≢ 0 → P k) → P k
    go (inl q) later = rw q h.0
    go (inr n) later = later (λ z. d (get-past r s k n ∙ z))

pub records-present : (low : ℕ) (s : Store) → Ascending low s → Every (λ (r : Record). get s r.key ≢ 0) s
records-present low [] a = tt
records-present low (r ∷ s) a = (first-present low r s a, every_map _ _ still s (records-present (suc r.key) s a.2))
  where
    still : (x : Record) → get s x.key ≢ 0 → get (r ∷ s) x.key ≢ 0
    still x d z = go (same_or_not x.key r.key)
      where
        go : (x.key ≡ r.key) ⊎ (x.key ≢ r.key) → ⊥
        go (inl q) = d (get-below (suc r.key) s x.key a.2 (omega arith))
        go (inr n) = d (sym (get-past r s x.key n) ∙ z)

-- Two stores that say the same of every key are the same: the one with the lower first key would say more.
pub store-ext : (s s' : Store) → Ascending 0 s → Ascending 0 s' → ((k : ℕ) → get s k ≡ get s' k) → s ≡ s'
store-ext [] [] a a' same = refl
store-ext [] (e' ∷ s') a a' same = absurd (first-present 0 e' s' a' (sym (same e'.key) ∙ get_none e'.key))
store-ext (e ∷ s) [] a a' same = absurd (first-present 0 e s a (same e.key ∙ get_none e.key))
store-ext (e ∷ s) (e' ∷ s') a a' same =
    go (order e.key e'.key)
    (store-ext s s' (ascending-lower 0 (suc e.key) s (omega arith) a.2) (ascending-lower 0 (suc e'.key) s' (omega arith) a'.2))
  where
    tails : e.key ≡ e'.key → (k : ℕ) → (k ≡ e.key) ⊎ (k ≡ e.key → ⊥) → get s k ≡ get s' k
    tails q k (inl h) = get-below (suc e.key) s k a.2 (omega arith) ∙ sym (get-below (suc e'.key) s' k a'.2 (omega arith))
    tails q k (inr d) = sym (get-past e s k d) ∙ same k ∙ get-past e' s' k (λ h. d (h ∙ sym q))

    go : Order e.key e'.key → (((k : ℕ) → get s k ≡ get s' k) → s ≡ s') → e ∷ s ≡ e' ∷ s'
    go (less l) ih = absurd (first-present 0 e s a (same e.key ∙ get_below_first 0 e' s' e.key a' l))
    go (equal q) ih =
        let v : e.value ≡ e'.value = sym (get-here e s e.key refl) ∙ same e.key ∙ get-here e' s' e.key q in
        let r = ih (λ k. tails q k (same_or_not k e.key)) in
        λ i. q i holds v i ∷ r i
    go (more l) ih = absurd (first-present 0 e' s' a' (sym (same e'.key) ∙ get_below_first 0 e s e'.key a l))

-- Records that are put in ascending order of their keys, all before a store, stand in front of it in that order;
-- those of value zero leave nothing.
abbrev pub AscendingBefore : (low : ℕ) → List Record → Store → Type 0
AscendingBefore low [] s = Ascending low s
AscendingBefore low (e ∷ es) s = (low ≤ e.key) × AscendingBefore (suc e.key) es s

unfoldable pub records_before : List Record → Store → Store
records_before [] s = s
records_before (e ∷ es) s = record_before e.key e.value (records_before es s)

pub put_first : (s : Store) (k v : ℕ) → Ascending (suc k) s → put s k v ≡ record_before k v s
put_first [] k v a = put-none k v
put_first (e ∷ s) k v a = put-before e s k v a.0

rest-ascends : (low : ℕ) (es : List Record) (s : Store) → AscendingBefore low es s → Ascending low s
rest-ascends low [] s h = h
rest-ascends low (e ∷ es) s h = ascending-lower low (suc e.key) s (omega arith) (rest-ascends (suc e.key) es s h.1)

keys-least : (least low : ℕ) (es : List Record) (s : Store) → least ≤ low → AscendingBefore low es s → Every (λ e. least ≤ e.key) es
keys-least least low [] s l h = tt
keys-least least low (e ∷ es) s l h = (omega arith, keys-least least (suc e.key) es s (omega arith) h.1)

puts-after : (e : Record) (s : Store) (es : List Record) → Every (λ x. e.key < x.key) es → puts (e ∷ s) es ≡ e ∷ puts s es
unfolding puts
puts-after e s [] h = refl
puts-after e s (x ∷ es) h = rw (put-after e s x.key x.value h.0) (puts-after e (put s x.key x.value) es h.1)

pub puts-before : (low : ℕ) (es : List Record) (s : Store) → AscendingBefore low es s → puts s es ≡ records_before es s
unfolding puts records_before record_before
puts-before low [] s h = refl
puts-before low (e ∷ es) s h =
    rw (put_first s e.key e.value (rest-ascends (suc e.key) es s h.1))
    (go e.value (puts-before (suc e.key) es s h.1))
  where
    go : (v : ℕ) → puts s es ≡ records_before es s → puts (record_before e.key v s) es ≡ record_before e.key v (records_before es s)
    go zero ih = ih
    go (suc v) ih =
        puts-after (e.key holds suc v) s es (keys-least (suc e.key) (suc e.key) es s (omega arith) h.1)
        ∙ ap (λ t. e.key holds suc v ∷ t) ih

-- the records of a store, put one by one, make the store
ascending-before : (low : ℕ) (s : Store) → Ascending low s → AscendingBefore low s []
ascending-before low [] a = tt
ascending-before low (e ∷ s) a = (a.0, ascending-before (suc e.key) s a.2)

records_before-none : (low : ℕ) (s : Store) → Ascending low s → records_before s [] ≡ s
unfolding records_before
records_before-none low [] a = refl
records_before-none low (e ∷ s) a =
    record_before-present e.key e.value (records_before s []) a.1 ∙ ap (λ t. e ∷ t) (records_before-none (suc e.key) s a.2)

pub puts-all : (low : ℕ) (s : Store) → Ascending low s → puts [] s ≡ s
puts-all low s a = puts-before low s [] (ascending-before low s a) ∙ records_before-none low s a
