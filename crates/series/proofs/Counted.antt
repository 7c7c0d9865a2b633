-- The loop that counts the requests of each type: the counts so far and those of the requests that are left make up the whole.
-- The test for too many then looks at each type's count.
use Rattle.std.proofs.Common.{ℕ, zero, suc, ◌+◌, ◌-◌, ◌≤◌, ◌<◌, ◌≡◌, ◌⊎◌, inl, inr, refl, sym, ap, ◌∙◌, List, [], ◌∷◌, Bool, true, false, eqb, ltb, length, take, drop, get_or, set, arith, length-set, get_or-set_same, get_or-set_other, ext_get_or, ltb-true, ltb-false, eq-eqb, ne_eqb, lt-ltb, le-ltb, MatchBool, HoldsAt}
use Rattle.std.specs.List.{AllWithin}
use Rattle.rules.specs.Words.{Bytes}
use Rattle.rules.specs.Capabilities.{Kind, call, register, delete, set_entry, write, number}
use Rattle.rules.specs.Sound.{greatest_count, any_of}
use Rattle.rules.specs.Messages.{Request, requests, same_kind, requested_of}
use Rattle.rules.specs.Calls.{too_many}
use Rattle.rules.proofs.Source.{names-none}
use Rattle.laws.proofs.KindFacts.{number-least, kind_of-number}
use Rattle.laws.proofs.Numbers.{same_or_not}
use Rattle.laws.proofs.WordParts.{rest_part}
use Rattle.series.specs.Series.{left, bytes_left, FirstLeft, requested_counts}
use Rattle.series.specs.declared.Series.{Series}
use Rattle.series.specs.declared.Request.{Request as Found}

-- a type's number is below the length of the counts, since no number from there on names a type
number-below : (kind : Kind) → number kind < 8
number-below kind = go (ltb (number kind) 8) refl
  where
    go : (b : Bool) → ltb (number kind) 8 ≡ b → number kind < 8
    go true q = ltb-true (number kind) 8 q
    go false q =
        let none_named = names-none (number kind) (ltb-false (number kind) 8 q) in
        let named = kind_of-number kind in
        let z : ◌≡◌ {A = ℕ} 0 1 = cc in
        absurd (omega (arith, z))

-- how many requests are of a type
abbrev count : Kind → List Request → ℕ
count kind rs = length (requested_of kind rs)

pub record Counted (d : Bytes) (it : Series) (counts : List ℕ) : Type 0 where
  pub size : length counts ≡ 8
  -- a request has at least 64 bytes, so a count does not wrap
  pub few : (i : ℕ) → get_or counts i 0 + bytes_left it ≤ length d
  pub no_type : (i : ℕ) → i < 3 → get_or counts i 0 ≡ 0
  pub kinds : (kind : Kind) → count kind (requests d) ≡ get_or counts (number kind) 0 + count kind (left it)

-- the counts have the place of a request's type
pub counted-below : {it more : Series} {r : Found} → FirstLeft it r more → r.kind.0 < 8
counted-below q = omega (arith, number-below q.request.kind, q.type)

-- one more request
module _ (kind : Kind) (r : Request) (rs : List Request) where
  pub requested-same : number kind ≡ number r.kind → requested_of kind (r ∷ rs) ≡ r.capability ∷ requested_of kind rs
  unfolding requested_of same_kind
  requested-same e = let same : eqb (number kind) (number r.kind) ≡ true = eq-eqb _ _ e in rw (same, requested_of)

  pub requested-other : (number kind ≡ number r.kind → ⊥) → requested_of kind (r ∷ rs) ≡ requested_of kind rs
  unfolding requested_of same_kind
  requested-other n = let other : eqb (number kind) (number r.kind) ≡ false = ne_eqb _ _ n in rw (other, requested_of)

  one_more : number kind ≡ number r.kind → count kind (r ∷ rs) ≡ suc (count kind rs)
  one_more e = ap length (requested-same e)

  no_more : (number kind ≡ number r.kind → ⊥) → count kind (r ∷ rs) ≡ count kind rs
  no_more n = ap length (requested-other n)

pub counted-more : {d : Bytes} {it more : Series} {counts : List ℕ} {r : Found} → Counted d it counts → FirstLeft it r more
    → Counted d more (set counts r.kind.0 (get_or counts r.kind.0 0 + 1))
counted-more {d} {it} {more} {counts} {r} c q =
    record {
      size = length-set counts n (get_or counts n 0 + 1) ∙ c.size;
      few = λ i. few i (same_or_not i n);
      no_type = λ i h.
          get_or-set_other counts n i (get_or counts n 0 + 1) 0 (λ e. omega (arith, number-least q.request.kind, q.type))
          ∙ c.no_type i h;
      kinds = λ kind. kinds kind (same_or_not (number kind) (number q.request.kind));
    }
  where
    n : ℕ
    n = r.kind.0

    raised : get_or (set counts n (get_or counts n 0 + 1)) n 0 ≡ get_or counts n 0 + 1
    raised = get_or-set_same counts n (get_or counts n 0 + 1) 0 (omega (arith, number-below q.request.kind, q.type, c.size))

    few : (i : ℕ) → (i ≡ n) ⊎ (i ≡ n → ⊥) → get_or (set counts n (get_or counts n 0 + 1)) i 0 + bytes_left more ≤ length d
    few i (inl e) = rw (e, raised) (omega (arith, c.few n, q.bytes))
    few i (inr o) = rw (get_or-set_other counts n i (get_or counts n 0 + 1) 0 o) (omega (arith, c.few i, q.bytes))

    first : (kind : Kind) → count kind (left it) ≡ count kind (q.request ∷ left more)
    first kind = ap (count kind) q.first

    kinds : (kind : Kind) → (number kind ≡ number q.request.kind) ⊎ (number kind ≡ number q.request.kind → ⊥)
        → count kind (requests d) ≡ get_or (set counts n (get_or counts n 0 + 1)) (number kind) 0 + count kind (left more)
    kinds kind (inl e) =
        let at_n : number kind ≡ n = e ∙ sym q.type in
        let here = c.kinds kind in
        let more_of = first kind ∙ one_more kind q.request (left more) e in
        rw (at_n, raised) (omega (arith, rw at_n at here, more_of))
    kinds kind (inr o) =
        let off_n : number kind ≡ n → ⊥ = λ e. o (e ∙ q.type) in
        let here = c.kinds kind in
        let more_of = first kind ∙ no_more kind q.request (left more) o in
        rw (get_or-set_other counts n (number kind) (get_or counts n 0 + 1) 0 off_n) (omega (arith, here, more_of))

pub counted-all : {d : Bytes} {it : Series} {counts : List ℕ} → Counted d it counts → left it ≡ []
    → counts ≡ requested_counts (requests d)
unfolding requested_counts number requested_of
counted-all {d} {it} {counts} c l = ext_get_or 0 counts (requested_counts (requests d)) c.size same
  where
    each : (kind : Kind) → get_or counts (number kind) 0 ≡ count kind (requests d)
    each kind =
        let none : count kind (left it) ≡ 0 = ap (count kind) l in
        omega (arith, c.kinds kind, none)

    same : (i : ℕ) → i < length counts → get_or counts i 0 ≡ get_or (requested_counts (requests d)) i 0
    same zero h = c.no_type 0 (omega arith)
    same (suc zero) h = c.no_type 1 (omega arith)
    same (suc (suc zero)) h = c.no_type 2 (omega arith)
    same (suc (suc (suc zero))) h = each call
    same (suc (suc (suc (suc zero)))) h = each register
    same (suc (suc (suc (suc (suc zero))))) h = each delete
    same (suc (suc (suc (suc (suc (suc zero)))))) h = each set_entry
    same (suc (suc (suc (suc (suc (suc (suc zero))))))) h = each write
    same (suc (suc (suc (suc (suc (suc (suc (suc i)))))))) h = absurd (omega (arith, c.size))

-- what a type's number finds in the counts
pub requested-at : (rs : List Request) (kind : Kind)
    → get_or (requested_counts rs) (number kind) 0 ≡ length (requested_of kind rs)
unfolding requested_counts number
requested-at rs call = refl
requested-at rs register = refl
requested-at rs delete = refl
requested-at rs set_entry = refl
requested-at rs write = refl

-- whether one of the counts is too large
found : (xs : List ℕ) (k : ℕ) → k < length xs → greatest_count < get_or xs k 0 → any_of (ltb greatest_count) xs ≡ true
unfolding any_of
found [] k h l = absurd (omega arith)
found (x ∷ xs) zero h l = let many = lt-ltb greatest_count x l in rw (many, any_of)
found (x ∷ xs) (suc k) h l = go (found xs k (omega arith) l) (ltb greatest_count x) refl
  where
    go : any_of (ltb greatest_count) xs ≡ true → (b : Bool) → ltb greatest_count x ≡ b
        → any_of (ltb greatest_count) (x ∷ xs) ≡ true
    go e true q = rw (q, any_of)
    go e false q = rw (q, any_of) e

not-found : (xs : List ℕ) → AllWithin (λ x. x ≤ greatest_count) xs 0 (length xs) → any_of (ltb greatest_count) xs ≡ false
unfolding any_of
not-found [] h = refl
not-found (x ∷ xs) h =
    let few = le-ltb greatest_count x (h 0 0 (omega arith) (omega arith)) in
    rw (few, any_of) (not-found xs (λ k d l m. h (suc k) d (omega arith) (omega arith)))

-- what a search over the counts answers: that one is too large, or that none is
abbrev pub Searched : List ℕ → Bool → Type 0
Searched counts r =
    MatchBool r ((k : ℕ) × (k < length counts) × HoldsAt (λ x. greatest_count < x) counts k)
    (AllWithin (λ x. x ≤ greatest_count) counts 0 (length counts))

-- the counts from Call's on, 3: no type's number is smaller
pub types-counts : (rs : List Request) {counts : List ℕ} {from : ℕ} → counts ≡ requested_counts rs → from ≡ 3
    → take (length counts - from) (drop from counts) ≡ drop 3 (requested_counts rs)
types-counts rs {counts} {from} e first = rest_part from counts ∙ rw (first, e) refl

-- those counts decide whether one is too large
pub counts-decide : (rs : List Request) {counts : List ℕ} {from : ℕ} → counts ≡ requested_counts rs → from ≡ 3
    → (r : Bool) → Searched (take (length counts - from) (drop from counts)) r → r ≡ too_many rs
unfolding too_many any_of requested_counts
counts-decide rs {counts} {from} e first r h = go r h ∙ ap (any_of (ltb greatest_count)) (types-counts rs e first) ∙ all
  where
    all : any_of (ltb greatest_count) (drop 3 (requested_counts rs)) ≡ too_many rs
    all = refl

    go : (r : Bool) → Searched (take (length counts - from) (drop from counts)) r
        → r ≡ any_of (ltb greatest_count) (take (length counts - from) (drop from counts))
    go true q = sym (found _ q.0 q.1 (q.2 0))
    go false q = sym (not-found _ q)
