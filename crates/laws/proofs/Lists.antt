-- What holds of every element of a list, and the tests that walk a list, or the places n down to 1: `all_of`, `any_of`, `all_places`.
-- A name that ends in `-true` goes from a test to what it says, one that begins with `true-` the other way.
use Prim.Native.Nat.{ℕ, zero, suc, ◌≤◌}
use native.Mathlib.Omega.{arith}
use mathlib.Core.Path.{◌≡◌, refl, sym, ap, ◌∙◌}
use mathlib.Core.Logic.{◌≢◌, ◌⊎◌, inl, inr}
use mathlib.Core.List.{List, [], ◌∷◌}
use mathlib.Core.Bool.{Bool, true, false, true≢false, ◌&&◌}
use lib.ListN.{take, drop, replicate}
use Rattle.rules.specs.Words.{Every, OneOf}
use Rattle.rules.specs.Sound.{all_of, any_of, all_places}
pub use Rattle.rules.proofs.Lists.{every_append}
use Rattle.laws.proofs.Bools.{and_left, and_right, and_both, or_left, or_right, or-first, or-second, ◌or◌, if-and, if-or, tests-true}
use Rattle.laws.proofs.Numbers.{same_or_not}

-- Every element.
pub every_one : {A : Type 0} (P : A → Type 0) → ((x : A) → P x) → (xs : List A) → Every P xs
every_one P h [] = tt
every_one P h (x ∷ xs) = (h x, every_one P h xs)

pub every_map : {A : Type 0} (P Q : A → Type 0) → ((x : A) → P x → Q x) → (xs : List A) → Every P xs → Every Q xs
every_map P Q f [] h = tt
every_map P Q f (x ∷ xs) h = (f x h.0, every_map P Q f xs h.1)

pub every_in : {A : Type 0} (P : A → Type 0) (xs : List A) → Every P xs → (x : A) → OneOf x xs → P x
every_in P [] h x i = absurd i
every_in P (y ∷ xs) h x (inl q) = rw q h.0
every_in P (y ∷ xs) h x (inr i) = every_in P xs h.1 x i

pub every_take : {A : Type 0} (P : A → Type 0) (n : ℕ) (xs : List A) → Every P xs → Every P (take n xs)
every_take P zero xs v = tt
every_take P (suc n) [] v = tt
every_take P (suc n) (x ∷ xs) v = (v.0, every_take P n xs v.1)

pub every_drop : {A : Type 0} (P : A → Type 0) (n : ℕ) (xs : List A) → Every P xs → Every P (drop n xs)
every_drop P zero xs v = v
every_drop P (suc n) [] v = tt
every_drop P (suc n) (x ∷ xs) v = every_drop P n xs v.1

pub every-replicate : {A : Type 0} (P : A → Type 0) (n : ℕ) (x : A) → P x → Every P (replicate n x)
every-replicate P zero x h = tt
every-replicate P (suc n) x h = (h, every-replicate P n x h)

-- The test of all.
pub all_true : {A : Type 0} (f : A → Bool) (xs : List A) → all_of f xs ≡ true → Every (λ x. f x ≡ true) xs
unfolding all_of
all_true f [] q = tt
all_true f (x ∷ xs) q = let both = sym (if-and (f x) (all_of f xs)) ∙ q in (search tests-true, all_true f xs (search tests-true))

pub every-all : {A : Type 0} (f : A → Bool) (xs : List A) → Every (λ x. f x ≡ true) xs → all_of f xs ≡ true
unfolding all_of
every-all f [] h = refl
every-all f (x ∷ xs) h = if-and (f x) (all_of f xs) ∙ and_both _ _ h.0 (every-all f xs h.1)

-- The test of one.
pub any_false : {A : Type 0} (f : A → Bool) (xs : List A) → any_of f xs ≡ false → Every (λ x. f x ≡ false) xs
unfolding any_of
any_false f [] q = tt
any_false f (x ∷ xs) q = let none = sym (if-or (f x) (any_of f xs)) ∙ q in (or_left _ _ none, any_false f xs (or_right (f x) _ none))

pub any-true : {A P : Type 0} (f : A → Bool) (xs : List A) → ((x : A) → f x ≡ true → P) → any_of f xs ≡ true → P
unfolding any_of
any-true f [] h q = absurd (true≢false (sym q))
any-true f (x ∷ xs) h q = (h x or any-true f xs h) (sym (if-or (f x) (any_of f xs)) ∙ q)

pub true-any : {A : Type 0} (f : A → Bool) (xs : List A) (x : A) → OneOf x xs → f x ≡ true → any_of f xs ≡ true
unfolding any_of
true-any f [] x i q = absurd i
true-any f (y ∷ xs) x (inl e) q = if-or (f y) (any_of f xs) ∙ or-first _ _ (ap f (sym e) ∙ q)
true-any f (y ∷ xs) x (inr i) q = if-or (f y) (any_of f xs) ∙ or-second (f y) _ (true-any f xs x i q)

-- The test of all places.
pub places-true : (f : ℕ → Bool) (n : ℕ) → all_places f n ≡ true → (i : ℕ) → 1 ≤ i → i ≤ n → f i ≡ true
unfolding all_places
places-true f zero q i a b = absurd (omega arith)
places-true f (suc n) q i a b = go (same_or_not i (suc n)) (places-true f n (and_right (f (suc n)) _ both) i a)
  where
    both : (f (suc n) && all_places f n) ≡ true
    both = sym (if-and (f (suc n)) (all_places f n)) ∙ q

    go : (i ≡ suc n) ⊎ (i ≢ suc n) → (i ≤ n → f i ≡ true) → f i ≡ true
    go (inl e) below = rw e (and_left _ _ both)
    go (inr d) below = below (omega arith)

pub true-places : (f : ℕ → Bool) (n : ℕ) → ((i : ℕ) → 1 ≤ i → i ≤ n → f i ≡ true) → all_places f n ≡ true
unfolding all_places
true-places f zero h = refl
true-places f (suc n) h =
    if-and (f (suc n)) (all_places f n)
    ∙ and_both _ _ (h (suc n) (omega arith) (omega arith)) (true-places f n (λ i a b. h i a (omega arith)))

-- what follows from the test of each element follows from the test of one
pub any-every : {A P : Type 0} (f : A → Bool) (xs : List A) → Every (λ x. f x ≡ true → P) xs → any_of f xs ≡ true → P
unfolding any_of
any-every f [] h q = absurd (true≢false (sym q))
any-every f (x ∷ xs) h q = (h.0 or any-every f xs h.1) (sym (if-or (f x) (any_of f xs)) ∙ q)
