-- The five types: each is in the list of types, their numbers are small and rise, and a type's number names it.
-- What is shown of all of the list holds of each type (`each-kind`).
use Prim.Native.Nat.{ℕ, zero, suc, ◌+◌, ◌-◌, ◌≤◌, ◌<◌}
use native.Mathlib.Omega.{arith}
use mathlib.Core.Path.{◌≡◌, refl, sym, ap, ◌∙◌}
use mathlib.Core.Logic.{inl, inr}
use mathlib.Core.List.{List, [], ◌∷◌}
use mathlib.Core.Option.{Option, none, some}
use mathlib.Core.Bool.{Bool, true, false, true≢false}
use lib.Dec.{eqb}
use lib.ListN.{drop}
use borrow.Author.Tests.{eqb-true}
use Rattle.rules.specs.Words.{Every, OneOf}
use Rattle.rules.specs.Capabilities.{kind_among, Kind, call, register, delete, set_entry, write, number, word_count, kinds, kind_of}
use Rattle.rules.specs.Sound.{all_of, any_of}
use Rattle.rules.specs.Messages.{named, kind_or_unknown, of_kind, null, unknown}
use Rattle.rules.specs.Source.{words_of}
use Rattle.laws.proofs.Lists.{every_one, all_true, every-all, every_in, any_false}

-- The list of types: each is in it, so that what holds of all of the list holds of each.
pub in-kinds : (kind : Kind) → OneOf kind kinds
in-kinds call = inl refl
in-kinds register = inr (inl refl)
in-kinds delete = inr (inr (inl refl))
in-kinds set_entry = inr (inr (inr (inl refl)))
in-kinds write = inr (inr (inr (inr (inl refl))))

pub each-kind : (P : Kind → Type 0) → Every P kinds → (kind : Kind) → P kind
each-kind P h kind = every_in P kinds h kind (in-kinds kind)

-- the test of all types
pub kinds-true : (f : Kind → Bool) → all_of f kinds ≡ true → (kind : Kind) → f kind ≡ true
kinds-true f q = each-kind (λ kind. f kind ≡ true) (all_true f kinds q)

pub true-kinds : (f : Kind → Bool) → ((kind : Kind) → f kind ≡ true) → all_of f kinds ≡ true
true-kinds f h = every-all f kinds (every_one (λ kind. f kind ≡ true) h kinds)

pub kinds-false : (f : Kind → Bool) → any_of f kinds ≡ false → (kind : Kind) → f kind ≡ false
kinds-false f q kind = each-kind (λ x. f x ≡ false) (any_false f kinds q) kind

-- Numbers and word counts.
pub number_small : (kind : Kind) → number kind < 256
unfolding number
number_small = each-kind (λ kind. number kind < 256) (omega arith)

pub number-least : (kind : Kind) → 3 ≤ number kind
unfolding number
number-least = each-kind (λ kind. 3 ≤ number kind) (omega arith)

pub word_count-small : (kind : Kind) → word_count kind ≤ 2
unfolding word_count
word_count-small = each-kind (λ kind. word_count kind ≤ 2) (omega arith)

-- the numbers of a list of types rise, from n on
abbrev pub Climbs : ℕ → List Kind → Type 0
Climbs n [] = Unit {0}
Climbs n (x ∷ xs) = (n ≤ number x) × Climbs (suc (number x)) xs

pub kinds-climb : Climbs 3 kinds
unfolding number
kinds-climb = omega arith

-- The type that a number names.
pub kind_of-number : (kind : Kind) → kind_of (number kind) ≡ some kind
unfolding kind_of kind_among number
kind_of-number = each-kind (λ kind. kind_of (number kind) ≡ some kind) (search)

-- how many words a type has, by its number
pub words-of : (kind : Kind) {n m : ℕ} → number kind ≡ n → m ≡ words_of n → word_count kind ≡ m
unfolding words_of
words-of kind {n} q e = let names : kind_of n ≡ some kind = ap kind_of (sym q) ∙ kind_of-number kind in sym (e ∙ rw (names, words_of))

pub number-inj : (a b : Kind) → number a ≡ number b → a ≡ b
number-inj a b q = cc (kind_of-number a, kind_of-number b)

kind_among-some : (ks : List Kind) (n : ℕ) (kind : Kind) → kind_among ks n ≡ some kind → number kind ≡ n
unfolding kind_among
kind_among-some [] n kind q = absurd (true≢false (cc))
kind_among-some (x ∷ ks) n kind q = go (eqb (number x) n) refl (kind_among-some ks n kind)
  where
    go : (b : Bool) → eqb (number x) n ≡ b → (kind_among ks n ≡ some kind → number kind ≡ n) → number kind ≡ n
    go true e later =
        let here : kind_among (x ∷ ks) n ≡ some x = rw (e, kind_among) in
        let same : x ≡ kind = cc in
        ap number (sym same) ∙ eqb-true (number x) n e
    go false e later = later (rw (e, kind_among) at q)

pub kind_of-some : (n : ℕ) (kind : Kind) → kind_of n ≡ some kind → number kind ≡ n
unfolding kind_of
kind_of-some = kind_among-some kinds

-- and what a message's type names
pub named-number : (kind : Kind) → named (number kind) ≡ of_kind kind
unfolding named kind_or_unknown kind_of kind_among number
named-number = each-kind (λ kind. named (number kind) ≡ of_kind kind) (search)

pub named-kind : (n : ℕ) (kind : Kind) → named n ≡ of_kind kind → n ≡ number kind
unfolding named kind_or_unknown
named-kind n kind q = go (eqb n 0) refl (kind_of n) refl
  where
    go : (b : Bool) → eqb n 0 ≡ b → (o : Option Kind) → kind_of n ≡ o → n ≡ number kind
    go true e o f = let a : named n ≡ null = rw (e, named) in absurd (true≢false (cc))
    go false e none f = let a : named n ≡ unknown = rw (e, named) (rw f) in absurd (true≢false (cc))
    go false e (some x) f =
        let a : named n ≡ of_kind x = rw (e, named) (rw f) in
        let same : x ≡ kind = cc in
        sym (kind_of-some n x f) ∙ ap number same

-- A loop over the types by their numbers, 3 to 7: the types from a number on are what is left of `kinds`, and the one with
-- that number comes next.
pub record Next (n : ℕ) : Type 0 where
  pub kind : Kind
  pub names : number kind ≡ n
  pub here : drop (n - 3) kinds ≡ kind ∷ drop (n + 1 - 3) kinds

pub next : (n : ℕ) → 3 ≤ n → n ≤ 7 → Next n
unfolding number
next n h l = go (n - 3) (omega arith)
  where
    go : (j : ℕ) → n ≡ j + 3 → Next n
    go zero q = rw q (record { kind = call; names = refl; here = refl })
    go (suc zero) q = rw q (record { kind = register; names = refl; here = refl })
    go (suc (suc zero)) q = rw q (record { kind = delete; names = refl; here = refl })
    go (suc (suc (suc zero))) q = rw q (record { kind = set_entry; names = refl; here = refl })
    go (suc (suc (suc (suc zero)))) q = rw q (record { kind = write; names = refl; here = refl })
    go (suc (suc (suc (suc (suc j))))) q = absurd (omega arith)
