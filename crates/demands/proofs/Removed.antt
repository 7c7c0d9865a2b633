-- A store without the records of one procedure, as Delete leaves it: none of the procedure's slots is present,
-- and every other slot holds what it held. A slot is the procedure's if all but its end is that of the procedure's address slot.
use Prim.Native.Nat.{ℕ, suc, ◌+◌, ◌*◌, ◌/◌, ◌^◌, ◌<◌}
use native.Mathlib.Omega.{arith}
use native.Mathlib.Nat.{div-div-eq-div-mul}
use mathlib.Core.Path.{◌≡◌, refl, sym, ap, ◌∙◌}
use mathlib.Core.Logic.{◌≢◌}
use mathlib.Core.List.{[], ◌∷◌}
use mathlib.Core.Bool.{Bool, true, false, true≢false}
use lib.Dec.{eqb}
use borrow.Author.Tests.{eqb-true, eq-eqb}
use Rattle.rules.specs.Words.{Every}
use Rattle.rules.specs.Table.{Record, Store, get, Ascending}
use Rattle.rules.specs.KernelStorage.{kernel_mark, in_kernel_storage, slot, ending, address_slot}
use Rattle.rules.specs.Calls.{of_procedure, without_procedure}
use Rattle.laws.proofs.Bools.{decide-false}
use Rattle.laws.proofs.Numbers.{digits_div}
use Rattle.laws.proofs.Stores.{get-past, ascending-lower, present-recorded}
use Rattle.laws.proofs.Slots.{Fits, slot-region, slot-middle, slot-in_kernel_storage, in_procedure, zero-end}

-- Which keys are a procedure's: the slots of region 00 with the procedure's key in the middle. Their front decides.
slot-without-end : {r m e : ℕ} → Fits r m e → slot r m e / 2 ^ 24 ≡ (kernel_mark * 256 + r) * 2 ^ 192 + m
unfolding slot
slot-without-end {r} {m} {e} f = digits_div (2 ^ 24) ((kernel_mark * 256 + r) * 2 ^ 192 + m) e f.end

module _ (p : ℕ) (p-fits : p < 2 ^ 192) where
  address-fits : Fits 0 p (ending 0 0 0)
  address-fits = in_procedure p p-fits (ending 0 0 0) zero-end

  pub own-slot : (e : ℕ) → e < 2 ^ 24 → of_procedure p (slot 0 p e) ≡ true
  unfolding of_procedure address_slot
  own-slot e he = eq-eqb _ _ (slot-without-end (in_procedure p p-fits e he) ∙ sym (slot-without-end address-fits))

  pub other-slot : {r m e : ℕ} → Fits r m e → (r ≡ 0 → m ≡ p → ⊥) → of_procedure p (slot r m e) ≡ false
  unfolding of_procedure address_slot slot
  other-slot {r} {m} {e} f apart =
      decide-false _ (λ own. apart (slot-region ends address-fits (same own)) (slot-middle ends address-fits (same own)))
    where
      ends : Fits r m (ending 0 0 0)
      ends = record { region = f.region; middle = f.middle; end = zero-end }

      same : eqb (slot r m e / 2 ^ 24) (slot 0 p (ending 0 0 0) / 2 ^ 24) ≡ true → slot r m (ending 0 0 0) ≡ slot 0 p (ending 0 0 0)
      same own =
          ap (λ (front : ℕ). front * 2 ^ 24 + ending 0 0 0)
          (sym (slot-without-end f) ∙ eqb-true _ _ own ∙ slot-without-end address-fits)

  pub own-in_kernel_storage : (k : ℕ) → of_procedure p k ≡ true → in_kernel_storage k ≡ true
  unfolding of_procedure address_slot in_kernel_storage
  own-in_kernel_storage k own =
      eq-eqb _ _ (
      sym (div-div-eq-div-mul k (2 ^ 24) (2 ^ 200))
      ∙ ap (λ (front : ℕ). front / 2 ^ 200) (eqb-true _ _ own)
      ∙ div-div-eq-div-mul (slot 0 p (ending 0 0 0)) (2 ^ 24) (2 ^ 200)
      ∙ eqb-true _ _ (slot-in_kernel_storage address-fits))

-- What is left without a procedure's records: none of its keys, and every other key as it was.
abbrev NotOf : ℕ → Record → Type 0
NotOf p r = of_procedure p r.key ≡ false

none_left : (p : ℕ) (s : Store) → Every (NotOf p) (without_procedure p s)
unfolding without_procedure
none_left p [] = tt
none_left p (r ∷ s) = go (of_procedure p r.key) refl (none_left p s)
  where
    go : (own : Bool) → of_procedure p r.key ≡ own → Every (NotOf p) (without_procedure p s)
        → Every (NotOf p) (elim own [ true ↦ without_procedure p s | false ↦ r ∷ without_procedure p s ])
    go true q rest = rest
    go false q rest = (q, rest)

pub present-not-own : (p : ℕ) (s : Store) (k : ℕ) → get (without_procedure p s) k ≢ 0 → of_procedure p k ≡ false
present-not-own p s = present-recorded (λ k. of_procedure p k ≡ false) (without_procedure p s) (none_left p s)

pub get-without : (p : ℕ) (s : Store) (k : ℕ) → of_procedure p k ≡ false → get (without_procedure p s) k ≡ get s k
unfolding without_procedure get
get-without p [] k other = refl
get-without p (r ∷ s) k other = go (of_procedure p r.key) refl (get-without p s k other)
  where
    go : (own : Bool) → of_procedure p r.key ≡ own → get (without_procedure p s) k ≡ get s k
        → get (elim own [ true ↦ without_procedure p s | false ↦ r ∷ without_procedure p s ]) k ≡ get (r ∷ s) k
    go true q same = same ∙ sym (get-past r s k (λ z. true≢false (sym q ∙ ap (of_procedure p) (sym z) ∙ other)))
    go false q same = ap (λ (v : ℕ). elim (eqb k r.key) [ true ↦ r.value | false ↦ v ]) same

pub without-ascending : (p low : ℕ) (s : Store) → Ascending low s → Ascending low (without_procedure p s)
unfolding without_procedure
without-ascending p low [] a = tt
without-ascending p low (r ∷ s) (above, non_zero, rest) = go (of_procedure p r.key) (without-ascending p (suc r.key) s rest)
  where
    go : (own : Bool) → Ascending (suc r.key) (without_procedure p s)
        → Ascending low (elim own [ true ↦ without_procedure p s | false ↦ r ∷ without_procedure p s ])
    go true a = ascending-lower low (suc r.key) (without_procedure p s) (omega arith) a
    go false a = (above, non_zero, a)
