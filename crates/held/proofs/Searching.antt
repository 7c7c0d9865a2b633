-- The search among held capabilities. So far none of the first i contains the request, so the definitions' answers are those
-- of the capabilities that are left, and i more tests.
use Rattle.std.proofs.Common.{ℕ, suc, ◌+◌, ◌*◌, ◌-◌, ◌≤◌, ◌<◌, arith, add-one, ◌≡◌, sym, ap, ◌∙◌, List, ◌∷◌, Bool, true, false, length, take, drop, length-take, length-drop}
use Rattle.rules.specs.Words.{Bytes}
use Rattle.rules.specs.Table.{Store, get}
use Rattle.rules.specs.KernelStorage.{count_slot}
use Rattle.rules.specs.Capabilities.{Kind, number, Capability, within, prefix_in_range}
use Rattle.rules.specs.Procedures.{count_of, capability, capabilities_from, held}
use Rattle.rules.specs.Sound.{any_of}
use Rattle.rules.specs.Calls.{tests_in}
use Rattle.laws.proofs.KindFacts.{word_count-small}
use Rattle.laws.proofs.KindSound.{count-at-most, each-in-range}
use Rattle.rights.specs.Rights.{capability_in, WithinNeeds}
use Rattle.held.specs.Held.{Reached, Ready, ReachedBehind, SearchNeeds, Searched}
use Rattle.held.specs.declared.Held.{Held}
use Rattle.held.proofs.Copies.{copy-part}

-- The test of one and the tests, where the first of a list contains the request, and where it does not.
module _ (kind : Kind) (b a : Capability) (more : List Capability) where
  any-first : within kind b a ≡ true → any_of (within kind b) (a ∷ more) ≡ true
  unfolding any_of
  any-first e = rw (e, any_of)

  pub any-later : within kind b a ≡ false → any_of (within kind b) (a ∷ more) ≡ any_of (within kind b) more
  unfolding any_of
  any-later e = rw (e, any_of)

  pub tests-first : within kind b a ≡ true → tests_in kind b (a ∷ more) ≡ 1
  unfolding tests_in
  tests-first e = rw (e, tests_in)

  pub tests-later : within kind b a ≡ false → tests_in kind b (a ∷ more) ≡ suc (tests_in kind b more)
  unfolding tests_in
  tests-later e = rw (e, tests_in)

-- One type's capabilities, of which i were tested and the others are left.
pub record Left (s : Store) (p : ℕ) (kind : Kind) (b : Capability) (count i : ℕ) : Type 0 where
  pub found : any_of (within kind b) (held s p kind) ≡ any_of (within kind b) (capabilities_from s p kind (count - i) (suc i))
  pub tests : tests_in kind b (held s p kind) ≡ i + tests_in kind b (capabilities_from s p kind (count - i) (suc i))

module _ {s : Store} {p : ℕ} {kind : Kind} {b : Capability} {count : ℕ} where
  left-all : count ≡ count_of s p kind → Left s p kind b count 0
  unfolding held
  left-all e =
      let all : count - 0 ≡ count_of s p kind = omega arith in
      record { found = rw all; tests = rw all (omega arith) }

  left-none : {i : ℕ} → Left s p kind b count i → count ≤ i
      → (false ≡ any_of (within kind b) (held s p kind)) × (i ≡ tests_in kind b (held s p kind))
  unfolding capabilities_from any_of tests_in
  left-none {i} l h = let none : count - i ≡ 0 = omega arith in (sym (l.found ∙ rw none), sym (l.tests ∙ rw none (omega arith)))

  -- the first of those that are left
  module _ {i : ℕ} (l : Left s p kind b count i) (h : i < count) where
    next : capabilities_from s p kind (count - i) (suc i)
        ≡ capability s p kind (i + 1) ∷ capabilities_from s p kind (count - (i + 1)) (suc (i + 1))
    unfolding capabilities_from
    next = let one : count - i ≡ suc (count - (i + 1)) = omega arith in rw (one, add-one)

    left-later : within kind b (capability s p kind (i + 1)) ≡ false → Left s p kind b count (i + 1)
    left-later e =
        record {
          found = l.found ∙ rw next (any-later kind b _ _ e);
          tests = l.tests ∙ rw next (ap (λ (x : ℕ). i + x) (tests-later kind b _ _ e) ∙ omega arith);
        }

    left-first : within kind b (capability s p kind (i + 1)) ≡ true
        → (true ≡ any_of (within kind b) (held s p kind)) × (i + 1 ≡ tests_in kind b (held s p kind))
    left-first e = (
      sym (l.found ∙ rw next (any-first kind b _ _ e)),
      sym (l.tests ∙ rw next (ap (λ (x : ℕ). i + x) (tests-first kind b _ _ e))),
    )

-- what the needs say of the type that n names
module _ {s : Store} {p n : ℕ} {request : Bytes} (need : SearchNeeds s p n request) where
  counted : get s (count_slot p n) ≡ count_of s p need.kind
  unfolding count_of
  counted = ap (λ (m : ℕ). get s (count_slot p m)) (sym need.names)

  count_small : get s (count_slot p n) ≤ 255
  count_small = omega (arith, counted, count-at-most s p need.kind need.sound)

-- The loop: the first i of `count` held capabilities were tested, and there are copies of them.
pub record Seeking (s : Store) (p n : ℕ) (request : Bytes) (count : ℕ) (h : Held) (i : ℕ) : Type 0 where
  pub type : h.kind.0 ≡ n
  pub reached : Reached s p h
  pub all : count ≡ get s (count_slot p n)
  pub small : count ≤ 255
  pub inside : i ≤ count
  pub there : i ≤ h.read
  pub left : (kind : Kind) → number kind ≡ n → Left s p kind (capability_in kind request) count i

pub seek-start : {s : Store} {p n : ℕ} {request : Bytes} → SearchNeeds s p n request → {before h : Held} → Ready s p n before h
    → Reached s p before → Seeking s p n request h.number h 0
unfolding count_of
seek-start {s} {p} {n} need {h = h} y g =
    let now = y.reached g in
    let same : get s (count_slot p h.kind.0) ≡ get s (count_slot p n) = ap (λ (m : ℕ). get s (count_slot p m)) y.type in
    let all : h.number ≡ get s (count_slot p n) = omega (arith, now.number, count_small need) in
    record {
      type = y.type;
      reached = now;
      all = all;
      small = omega (arith, count_small need);
      inside = omega arith;
      there = omega arith;
      left = λ kind q. left-all (all ∙ ap (λ (m : ℕ). get s (count_slot p m)) (sym q));
    }

pub seek-end : {s : Store} {p n : ℕ} {request : Bytes} {count : ℕ} {h : Held} {i : ℕ}
    → Seeking s p n request count h i → count ≤ i
    → Searched s p n request h (record { contained = false; tests = count })
seek-end {count = count} {i = i} g k =
    let last : i ≡ count = omega (arith, g.inside) in
    record {
      contained = λ kind q. (left-none (g.left kind q) k).0;
      tests = λ kind q. sym last ∙ (left-none (g.left kind q) k).1;
      small = g.small;
      reached = g.reached;
    }

-- one more is read, if it was not, and tested
module _ {s : Store} {p n : ℕ} {request : Bytes} {count : ℕ} {before : Held} {i : ℕ} (g : Seeking s p n request count before i)
    (k : i < count) {h : Held} (m : ReachedBehind s p before.kind.0 i h) where
  abbrev part : Bytes
  part = take (64 * i + 64 - 64 * i) (drop (64 * i) h.copies)

  part-is : (kind : Kind) → number kind ≡ n → capability_in kind part ≡ capability s p kind (i + 1)
  part-is kind q =
      ap (capability_in kind) (copy-part h.copies i) ∙ m.reached.held i m.behind kind (q ∙ sym (m.type ∙ g.type))

  -- the one that was read can be compared
  pub comparable : 64 * i + 64 ≤ length h.copies → SearchNeeds s p n request → WithinNeeds n request part
  comparable fits need =
      record {
        kind = need.kind;
        names = need.names;
        size_b = need.size;
        size_a = simp (length-take, length-drop) (omega (arith, fits, word_count-small need.kind));
        in_range =
            ap (prefix_in_range need.kind) (part-is need.kind need.names)
            ∙ each-in-range s p need.kind need.sound (i + 1) (omega arith) (omega (arith, counted need, g.all));
      }

  module _ {b : Bool}
      (q : (kind : Kind) → number kind ≡ n → b ≡ within kind (capability_in kind request) (capability_in kind part)) where
    tested : {t : Bool} → b ≡ t → (kind : Kind) → number kind ≡ n
        → within kind (capability_in kind request) (capability s p kind (i + 1)) ≡ t
    tested e kind names = ap (within kind (capability_in kind request)) (sym (part-is kind names)) ∙ sym (q kind names) ∙ e

    pub seek-later : b ≡ false → Seeking s p n request count h (i + 1)
    seek-later e =
        record {
          type = m.type ∙ g.type;
          reached = m.reached;
          all = g.all;
          small = g.small;
          inside = omega arith;
          there = omega (arith, m.behind);
          left = λ kind names. left-later (g.left kind names) k (tested e kind names);
        }

    pub seek_found : b ≡ true → Searched s p n request h (record { contained = true; tests = i + 1 })
    seek_found e =
        record {
          contained = λ kind names. (left-first (g.left kind names) k (tested e kind names)).0;
          tests = λ kind names. (left-first (g.left kind names) k (tested e kind names)).1;
          small = omega (arith, g.small);
          reached = m.reached;
        }
