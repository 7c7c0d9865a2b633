-- What a type's number says. A number that names a type has one kind, and what is asked of the kind is asked of the number.
use Rattle.std.proofs.Common.{ℕ, ◌+◌, ◌≤◌, arith, ◌≡◌, refl, sym, ap, ◌∙◌, true, false, true≢false, leb, ltb}
use mathlib.Core.Option.{Option, none, some}
use borrow.Author.Tests.{ne_eqb}
use Rattle.rules.specs.Words.{Bytes}
use Rattle.rules.specs.Capabilities.{Kind, call, register, delete, set_entry, write, number, kind_of}
use Rattle.rules.specs.Messages.{named, kind_or_unknown, minimum, open_ended, overlong}
use Rattle.rules.specs.Source.{is_type, minimum_of, open_ended_of}
use Rattle.laws.proofs.KindFacts.{kind_of-number, kind_of-some}
use Rattle.messages.specs.Messages.{named_of, overlong_of}
use Rattle.messages.specs.declared.Named.TheVariants.{Null, Unknown, Of}

-- for callers: the least data of the messages of a type they know
pub minimum-number : (kind : Kind) → minimum_of (number kind) ≡ minimum kind
unfolding minimum_of
minimum-number kind = rw (kind_of-number kind, minimum_of)

-- no type has a greater minimum than Register and Write
pub minimum-bounded : (n : ℕ) → minimum_of n ≤ 96
unfolding minimum_of minimum
minimum-bounded n = go (kind_of n)
  where
    go : (o : Option Kind) → elim o as (λ _. ℕ) [ none ↦ 0 | some kind ↦ minimum kind ] ≤ 96
    go none = omega arith
    go (some call) = omega arith
    go (some register) = omega arith
    go (some delete) = omega arith
    go (some set_entry) = omega arith
    go (some write) = omega arith

-- at least one byte more than the minimum is more than it
pub one_more : (least bytes : ℕ) → leb (least + 1) bytes ≡ ltb least bytes
one_more least bytes = ap (λ (x : ℕ). leb x bytes) (omega arith)

open-ended-number : (kind : Kind) → open_ended_of (number kind) ≡ open_ended kind
unfolding open_ended_of
open-ended-number kind = rw (kind_of-number kind, open_ended_of)

pub overlong-number : (kind : Kind) (d : Bytes) → overlong_of (number kind) d ≡ overlong kind d
unfolding overlong_of overlong
overlong-number kind d = rw (open-ended-number kind, minimum-number kind)

-- the source's case for each number
pub named-null : (n : ℕ) → n ≡ 0 → Null ≡ named_of (named n)
unfolding named named_of
named-null n e = rw e

named_other : (n : ℕ) → (n ≡ 0 → ⊥) → named n ≡ kind_or_unknown (kind_of n)
unfolding named
named_other n h = rw (ne_eqb n 0 h, named)

pub named-known : (n : ℕ) → (n ≡ 0 → ⊥) → true ≡ is_type n → Of (record { 0 = n }) ≡ named_of (named n)
unfolding is_type named_of kind_or_unknown
named-known n h q = go (kind_of n) refl
  where
    go : (o : Option Kind) → kind_of n ≡ o → Of (record { 0 = n }) ≡ named_of (named n)
    go none e = absurd (true≢false (q ∙ rw (e, is_type)))
    go (some kind) e = rw (named_other n h, e) (ap (λ (x : ℕ). Of (record { 0 = x })) (sym (kind_of-some n kind e)))

pub named-unknown : (n : ℕ) → (n ≡ 0 → ⊥) → false ≡ is_type n → Unknown ≡ named_of (named n)
unfolding is_type named_of kind_or_unknown
named-unknown n h q = go (kind_of n) refl
  where
    go : (o : Option Kind) → kind_of n ≡ o → Unknown ≡ named_of (named n)
    go none e = rw (named_other n h, e)
    go (some kind) e = absurd (true≢false (sym (q ∙ rw (e, is_type))))
