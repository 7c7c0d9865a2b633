-- The place of the capability that a search finds: the number of tests is the place, from 1, of the first held capability that
-- contains the request. By induction over the capabilities that are left to test.
use Rattle.std.proofs.Common.{ℕ, zero, suc, ◌+◌, ◌≤◌, ◌<◌, arith, ◌≡◌, refl, sym, ap, ◌∙◌, Bool, true, false, true≢false, List, ltb, ltb-true, ltb-false}
use Rattle.rules.specs.Words.{Bytes}
use Rattle.rules.specs.Table.{Store}
use Rattle.rules.specs.Capabilities.{Kind, number, Capability, within}
use Rattle.rules.specs.Procedures.{count_of, capability, capabilities_from, held}
use Rattle.rules.specs.Sound.{any_of}
use Rattle.rules.specs.Calls.{tests_in}
use Rattle.rights.specs.Rights.{capability_in}
use Rattle.held.specs.Held.{Searched}
use Rattle.held.specs.declared.Held.{Held}
use Rattle.held.specs.declared.Search.{Search}
use Rattle.held.proofs.Searching.{any-later, tests-first, tests-later}

module _ (s : Store) (p : ℕ) (kind : Kind) (b : Capability) where
  -- n capabilities, behind the first i
  abbrev left : (n i : ℕ) → List Capability
  left n i = capabilities_from s p kind n (suc i)

  abbrev contains : ℕ → Bool
  contains i = within kind b (capability s p kind i)

  -- if one of them contains b, the last one tested does
  abbrev LastContains : (n i : ℕ) → Type 0
  LastContains n i = any_of (within kind b) (left n i) ≡ true → contains (i + tests_in kind b (left n i)) ≡ true

  last-contains : (n i : ℕ) → LastContains n i
  unfolding capabilities_from any_of
  last-contains zero i h = absurd (true≢false (sym h))
  last-contains (suc n) i h = go (contains (suc i)) refl (last-contains n (suc i))
    where
      go : (t : Bool) → contains (suc i) ≡ t → LastContains n (suc i) → contains (i + tests_in kind b (left (suc n) i)) ≡ true
      go true e later =
          let place : i + tests_in kind b (left (suc n) i) ≡ suc i = omega (arith, tests-first kind b _ (left n (suc i)) e) in
          ap contains place ∙ e
      go false e later =
          let place : i + tests_in kind b (left (suc n) i) ≡ suc i + tests_in kind b (left n (suc i))
          = omega (arith, tests-later kind b _ (left n (suc i)) e) in
          ap contains place ∙ later (sym (any-later kind b _ (left n (suc i)) e) ∙ h)

  -- none that is tested before the last does
  abbrev OthersNot : (n i j : ℕ) → Type 0
  OthersNot n i j = i < j → j < i + tests_in kind b (left n i) → contains j ≡ false

  others-not : (n i j : ℕ) → OthersNot n i j
  unfolding capabilities_from tests_in
  others-not zero i j l h = absurd (omega arith)
  others-not (suc n) i j l h = go (contains (suc i)) (ltb (suc i) j) refl refl (others-not n (suc i) j)
    where
      go : (t u : Bool) → contains (suc i) ≡ t → ltb (suc i) j ≡ u → OthersNot n (suc i) j → contains j ≡ false
      go true u e q later = absurd (omega (arith, tests-first kind b _ (left n (suc i)) e))
      go false true e q later = later (ltb-true (suc i) j q) (omega (arith, tests-later kind b _ (left n (suc i)) e))
      go false false e q later = let here : j ≡ suc i = omega (arith, ltb-false (suc i) j q) in ap contains here ∙ e

module _ {s : Store} {p n : ℕ} {request : Bytes} {h : Held} {r : Search} (found : Searched s p n request h r)
    (kind : Kind) (q : number kind ≡ n) where
  -- the capability at the place contains the request
  pub place-contains : r.contained ≡ true → within kind (capability_in kind request) (capability s p kind r.tests) ≡ true
  unfolding held
  place-contains e =
      let place : r.tests ≡ 0 + tests_in kind (capability_in kind request) (held s p kind) = omega (arith, found.tests kind q) in
      ap (λ (i : ℕ). within kind (capability_in kind request) (capability s p kind i)) place
      ∙ last-contains s p kind (capability_in kind request) (count_of s p kind) 0 (sym (found.contained kind q) ∙ e)

  -- none before it does
  pub before-place-not : (i : ℕ) → 1 ≤ i → i < r.tests → within kind (capability_in kind request) (capability s p kind i) ≡ false
  unfolding held
  before-place-not i a h =
      others-not s p kind (capability_in kind request) (count_of s p kind) 0 i a (omega (arith, found.tests kind q))
