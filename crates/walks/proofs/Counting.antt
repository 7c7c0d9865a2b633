-- Records whose values are different numbers from 1 to n: there are at most n of them, and where there are n each number is a value.
-- With each record one number goes from those that are left, since the value decides the key and keys ascend.
use Rattle.std.proofs.Common.{ℕ, zero, suc, ◌+◌, ◌≤◌, ◌<◌, arith, ◌≡◌, refl, sym, ap, ◌∙◌, ◌≢◌, ◌⊎◌, inl, inr, List, [], ◌∷◌, length}
use Rattle.rules.specs.Words.{Every}
use Rattle.rules.specs.Table.{Record, ◌holds◌, Store, get, put, Ascending}
use Rattle.laws.proofs.Numbers.{same_or_not}
use Rattle.laws.proofs.Lists.{every_map}
use Rattle.laws.proofs.Stores.{get-here, get-past, ascending-lower, put-ascending, put-shorter, get-put-other}

-- two facts of every element
pub every-both : {A : Type 0} (P Q : A → Type 0) (xs : List A) → Every P xs → Every Q xs → Every (λ x. P x × Q x) xs
every-both P Q [] h l = tt
every-both P Q (x ∷ xs) h l = ((h.0, l.0), every-both P Q xs h.1 l.1)

-- each key of ascending records is at least the first bound
pub keys_from_lem : (low : ℕ) (s : Store) → Ascending low s → (least : ℕ) → least ≤ low → Every (λ (r : Record). least ≤ r.key) s
keys_from_lem low [] a least h = tt
keys_from_lem low (r ∷ s) a least h = (omega (arith, a.0), keys_from_lem (suc r.key) s a.2 least (omega (arith, a.0)))

-- the numbers of a stretch, as a store
unfoldable numbers : (low n : ℕ) → Store
numbers low zero = []
numbers low (suc n) = low holds 1 ∷ numbers (suc low) n

numbers-count : (low n : ℕ) → length (numbers low n) ≡ n
unfolding numbers
numbers-count low zero = refl
numbers-count low (suc n) = ap suc (numbers-count (suc low) n)

numbers-ascend : (low n : ℕ) → Ascending low (numbers low n)
unfolding numbers
numbers-ascend low zero = tt
numbers-ascend low (suc n) = (omega arith, omega arith, numbers-ascend (suc low) n)

numbers-have : (low n k : ℕ) → low ≤ k → k < low + n → get (numbers low n) k ≢ 0
unfolding numbers
numbers-have low zero k h l z = omega arith
numbers-have low (suc n) k h l z = go (same_or_not k low) (numbers-have (suc low) n k)
  where
    go : (k ≡ low) ⊎ (k ≢ low) → (suc low ≤ k → k < suc low + n → get (numbers (suc low) n) k ≢ 0) → ⊥
    go (inl q) later = omega (arith, get-here (low holds 1) (numbers (suc low) n) k q)
    go (inr d) later = later (omega arith) (omega arith) (sym (get-past (low holds 1) (numbers (suc low) n) k d) ∙ z)

-- some record has the value m, or none has
valued : {P : Type 0} (t : Store) (m : ℕ) → Every (λ (r : Record). r.value ≡ m → P) t → (Every (λ (r : Record). r.value ≢ m) t → P) → P
valued [] m each none = none tt
valued {P} (r ∷ t) m each none = go (same_or_not r.value m) (valued t m each.1)
  where
    go : (r.value ≡ m) ⊎ (r.value ≢ m) → ((Every (λ (r : Record). r.value ≢ m) t → P) → P) → P
    go (inl q) later = each.0 q
    go (inr d) later = later (λ others. none (d, others))

-- records whose values are keys of a store, and whose keys the values decide: no more than the store has
module _ (of : ℕ → ℕ) where
  abbrev Valued : Store → Record → Type 0
  Valued s r = (get s r.value ≢ 0) × (of r.value ≡ r.key)

  no_more : (low : ℕ) (t s : Store) → Ascending low t → Ascending 0 s → Every (Valued s) t → length t ≤ length s
  no_more low [] s a b h = omega arith
  no_more low (e ∷ t) s a b h =
      let shorter = put-shorter 0 s e.value b h.0.0 in
      let above = keys_from_lem (suc e.key) t a.2 (suc e.key) (omega arith) in
      let left = every_map _ (Valued (put s e.value 0)) still t (every-both _ _ t above h.1) in
      let others = no_more (suc e.key) t (put s e.value 0) a.2 (put-ascending 0 s e.value 0 (omega arith) b) left in
      omega arith
    where
      still : (r : Record) → (suc e.key ≤ r.key) × Valued s r → Valued (put s e.value 0) r
      still r v = (λ z. v.1.0 (sym (get-put-other s e.value 0 r.value other) ∙ z), v.1.1)
        where
          other : r.value ≢ e.value
          other q = let same : r.key ≡ e.key = sym v.1.1 ∙ ap of q ∙ h.0.1 in omega (arith, v.0)

  -- a record's value is a number from 1 to n
  abbrev pub Numbered : (n : ℕ) → Record → Type 0
  Numbered n r = (1 ≤ r.value) × (r.value ≤ n) × (of r.value ≡ r.key)

  module _ (low n : ℕ) (t : Store) (a : Ascending low t) (h : Every (Numbered n) t) where
    all : Ascending 0 (numbers 1 n)
    all = ascending-lower 0 1 (numbers 1 n) (omega arith) (numbers-ascend 1 n)

    present : (r : Record) → Numbered n r → get (numbers 1 n) r.value ≢ 0
    present r v = numbers-have 1 n r.value v.0 (omega (arith, v.1))

    pub at_most : length t ≤ n
    at_most =
        let valued = every_map _ (Valued (numbers 1 n)) (λ r v. (present r v, v.2)) t h in
        omega (arith, no_more low t (numbers 1 n) a all valued, numbers-count 1 n)

    -- where no record has the value m, there are less than n
    fewer : (m : ℕ) → 1 ≤ m → m ≤ n → Every (λ (r : Record). r.value ≢ m) t → length t < n
    fewer m one last none =
        let shorter = put-shorter 0 (numbers 1 n) m all (numbers-have 1 n m one (omega arith)) in
        let left = every_map _ (Valued (put (numbers 1 n) m 0)) still t (every-both _ _ t none h) in
        omega (arith, no_more low t (put (numbers 1 n) m 0) a (put-ascending 0 (numbers 1 n) m 0 (omega arith) all) left, numbers-count 1 n)
      where
        still : (r : Record) → (r.value ≢ m) × Numbered n r → Valued (put (numbers 1 n) m 0) r
        still r v = (λ z. present r v.1 (sym (get-put-other (numbers 1 n) m 0 r.value v.0) ∙ z), v.1.2)

    -- where there are n, what follows from a record with the value m follows
    pub each_number : {P : Type 0} → n ≤ length t → (m : ℕ) → 1 ≤ m → m ≤ n → Every (λ (r : Record). r.value ≡ m → P) t → P
    each_number many m one last each = valued t m each (λ none. absurd (omega (arith, fewer m one last none)))
