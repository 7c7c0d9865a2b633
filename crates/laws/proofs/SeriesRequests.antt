-- A series of capabilities that Register accepts may be stored: each has the words of its type and a prefix in range, and there are
-- at most 255 of a type. What holds of every word of the series holds of every word requested, since requests are cut out of it.
use Prim.Native.Nat.{ℕ, zero, suc, ◌+◌, ◌/◌, ◌%◌}
use mathlib.Core.Path.{◌≡◌, refl, subst}
use mathlib.Core.List.{List, [], ◌∷◌}
use mathlib.Core.Bool.{Bool, true, false, ◌&&◌}
use mathlib.Core.Option.{Option, none, some}
use lib.Dec.{eqb, leb}
use lib.ListN.{length, take, drop}
use lib.Seq.{length-take-le}
use borrow.Author.Tests.{ltb-false, eqb-true}
use Rattle.rules.specs.Words.{word_bytes, Bytes, Every, words}
use Rattle.rules.specs.Capabilities.{Kind, kind_of, number, word_count, Capability, prefix_in_range}
use Rattle.rules.specs.Messages.{series_at, Request, request_of, request_at, add_request, series_from, series, series_of, or_empty, requests, same_kind, requested_of}
use Rattle.rules.specs.Calls.{too_many}
use Rattle.laws.proofs.Bools.{tests-true}
use Rattle.laws.proofs.Lists.{every_one, every_take}
use Rattle.laws.proofs.KindFacts.{kinds-false, number-inj}
use Rattle.laws.proofs.RegisterRecords.{Proper, Storable}

-- the words that follow the index, the key and the address
abbrev pub series_words : Bytes → List ℕ
series_words d = words (length (drop series_at d) / word_bytes) (drop series_at d)

-- what holds of the value, if there is one
abbrev IfSome : {A : Type 0} → (A → Type 0) → Option A → Type 0
IfSome P none = Unit {0}
IfSome P (some x) = P x

-- The requests of a series. Each is proper, and what holds of every word of the series holds of its words.
record ProperRequest (P : ℕ → Type 0) (r : Request) : Type 0 where
  proper : Proper r.kind r.capability
  each : Every P r.capability

module _ (P : ℕ → Type 0) where
  request_of-proper : (kind : Kind) (size : ℕ) (ws : List ℕ) → Every P ws → IfSome (ProperRequest P) (request_of kind size ws)
  unfolding request_of
  request_of-proper kind size ws v =
      go (eqb size (1 + word_count kind) && leb (word_count kind) (length ws) && prefix_in_range kind c) refl
    where
      c : Capability
      c = take (word_count kind) ws

      go : (b : Bool) → (eqb size (1 + word_count kind) && leb (word_count kind) (length ws) && prefix_in_range kind c) ≡ b
          → IfSome (ProperRequest P) (elim b [ true ↦ some (record { kind = kind; capability = c }) | false ↦ none ])
      go true e =
          record {
            proper = record { words = length-take-le (word_count kind) ws (search tests-true); prefix_fits = search tests-true };
            each = every_take P (word_count kind) ws v;
          }
      go false e = tt

  request_at-proper : (size : ℕ) (ws : List ℕ) → Every P ws → IfSome (ProperRequest P) (request_at size ws)
  unfolding request_at
  request_at-proper size [] v = tt
  request_at-proper size (type ∷ ws) v = go (kind_of type)
    where
      go : (o : Option Kind) → IfSome (ProperRequest P) (elim o [ none ↦ none | some kind ↦ request_of kind size ws ])
      go none = tt
      go (some kind) = request_of-proper kind size ws v.1

  series_from-proper : (skip : ℕ) (ws : List ℕ) → Every P ws → IfSome (Every (ProperRequest P)) (series_from skip ws)
  unfolding series_from add_request
  series_from-proper skip [] v = tt
  series_from-proper (suc n) (w ∷ ws) v = series_from-proper n ws v.1
  series_from-proper zero (size ∷ ws) v =
      go (request_at size ws) (request_at-proper size ws v.1) (series_from size ws) (series_from-proper size ws v.1)
    where
      go : (o : Option Request) → IfSome (ProperRequest P) o → (more : Option (List Request)) → IfSome (Every (ProperRequest P)) more
          → IfSome (Every (ProperRequest P)) (elim o [ none ↦ none | some r ↦ add_request r more ])
      go none first more rest = tt
      go (some r) first none rest = tt
      go (some r) first (some rs) rest = (first, rest)

  requests-proper : (d : Bytes) → Every P (series_words d) → Every (ProperRequest P) (requests d)
  unfolding requests or_empty series_of series
  requests-proper d v = given (series_of d) (whole (eqb (length (drop series_at d) % word_bytes) 0))
    where
      whole : (b : Bool) → IfSome (Every (ProperRequest P)) (elim b [ true ↦ series_from 0 (series_words d) | false ↦ none ])
      whole true = series_from-proper 0 (series_words d) v
      whole false = tt

      given : (o : Option (List Request)) → IfSome (Every (ProperRequest P)) o → Every (ProperRequest P) (or_empty o)
      given none h = tt
      given (some rs) h = h

-- Those of a type: what each request of that type shows of its capability holds of every one.
pub requested-every : (Q : Request → Type 0) (R : Capability → Type 0) (kind : Kind)
    → ((r : Request) → r.kind ≡ kind → Q r → R r.capability) → (rs : List Request) → Every Q rs → Every R (requested_of kind rs)
unfolding requested_of same_kind
requested-every Q R kind shows [] h = tt
requested-every Q R kind shows (r ∷ rs) h = go (same_kind kind r.kind) refl (requested-every Q R kind shows rs h.1)
  where
    go : (b : Bool) → same_kind kind r.kind ≡ b → Every R (requested_of kind rs)
        → Every R (elim b [ true ↦ r.capability ∷ requested_of kind rs | false ↦ requested_of kind rs ])
    go true e rest = (shows r (number-inj r.kind kind (cc (eqb-true (number kind) (number r.kind) e))) h.0, rest)
    go false e rest = rest

-- What Register stores.
pub requests-each : (P : ℕ → Type 0) (d : Bytes) → Every P (series_words d) → (kind : Kind) → Every (Every P) (requested_of kind (requests d))
requests-each P d v kind =
    requested-every (ProperRequest P) (Every P) kind (λ r is h. h.each) (requests d) (requests-proper P d v)

pub requests-storable : (d : Bytes) → too_many (requests d) ≡ false → Storable (requests d)
unfolding too_many
requests-storable d few =
    record {
      few = λ kind. ltb-false 255 _ (kinds-false _ few kind);
      proper = λ kind. requested-every (ProperRequest Anything) (Proper kind) kind
          (λ r is h. subst (λ (x : Kind). Proper x r.capability) is h.proper)
          (requests d) (requests-proper Anything d (every_one Anything (λ w. tt) (series_words d)));
    }
  where
    Anything : ℕ → Type 0
    Anything w = Unit {0}
