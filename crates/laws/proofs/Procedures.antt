-- What soundness says of the list, the test for a listed key, and the capabilities of a procedure read one by one.
-- The list cannot be longer than the store: its places are different slots, and each is present.
use Prim.Native.Nat.{ℕ, zero, suc, ◌+◌, ◌^◌, ◌≤◌, ◌<◌}
use native.Mathlib.Omega.{arith}
use native.Mathlib.Nat.{lt_of_le_of_lt}
use mathlib.Core.Path.{◌≡◌, sym, ap, ◌∙◌}
use mathlib.Core.Logic.{◌≢◌, ◌⊎◌, inl, inr}
use mathlib.Core.Bool.{true}
use lib.Dec.{lit<}
use lib.ListN.{length}
use Rattle.rules.specs.Words.{Every}
use Rattle.rules.specs.Table.{Store, Ascending, get}
use Rattle.rules.specs.KernelStorage.{slot, index_slot, length_slot, place_slot}
use Rattle.rules.specs.Capabilities.{Kind, Capability}
use Rattle.rules.specs.Procedures.{list_length, key_at, index_of, count_of, capability, capabilities_from, held, InList, Listed, listed}
use Rattle.rules.specs.Sound.{Sound}
use Rattle.laws.proofs.Bools.{tests-true, true-tests}
use Rattle.laws.proofs.Numbers.{same_or_not}
use Rattle.laws.proofs.Stores.{pigeons}
use Rattle.laws.proofs.Slots.{place_slot-inj, slot-in_kernel_storage, in_procedure}
use Rattle.laws.proofs.Places.{place_sound_of, Body, place-fits, belongs-listed, belongs-place}

-- What a sound table's store is known to be, where proofs speak of stores and not of bytes: sound, of ascending records, and
-- within a table that has room for n of them, 1,024 at most. Each call that succeeds is proved to lead from a good store to one.
pub record Good (n : ℕ) (s : Store) : Type 0 where
  pub ascending : Ascending 0 s
  pub fits : length s ≤ n
  pub room : n ≤ 1024
  pub sound : Sound s

-- The list has at most as many places as the store has records; so a place fits the middle of a slot.
pub list-short : (s : Store) → Ascending 0 s → Sound s → list_length s ≤ length s
unfolding key_at
list-short s a h =
    pigeons (list_length s) (λ i. place_slot (suc i)) s a
    (λ i l z. omega (arith, (h.keys (suc i) (record { first = omega arith; last = l })).non_zero))
    (λ i j l m q. omega (arith, place_slot-inj (suc i) (suc j) q))

pub list-within : {n : ℕ} {s : Store} → Good n s → list_length s ≤ 1024
list-within {s = s} g = omega (arith, list-short s g.ascending g.sound)

pub short : {n : ℕ} {s : Store} → Good n s → list_length s < 2 ^ 192
short g = lt_of_le_of_lt (list-within g) (lit< tt)

pub body_of : {n : ℕ} {s : Store} → Good n s → Body s
body_of {n} {s} g =
    record {
      short = list-within g;
      places = place_sound_of s g.sound;
      nothing_else = g.sound.nothing_else;
    }

-- The test for a listed key.
pub listed-true : (s : Store) (p : ℕ) → listed s p ≡ true → Listed s p
unfolding listed
listed-true s p q = record { place = index_of s p; in_list = search tests-true; here = search tests-true }

pub listed_here : (s : Store) → Sound s → (p : ℕ) → Listed s p → listed s p ≡ true
unfolding listed
listed_here s h p l =
    let place : index_of s p ≡ l.place = ap (index_of s) (sym l.here) ∙ h.indexes l.place l.in_list in
    rw place (search true-tests)

-- a listed key is not zero, so a slot that holds it is present
pub listed-non_zero : (s : Store) → Sound s → (p : ℕ) → Listed s p → p ≡ 0 → ⊥
listed-non_zero s h p l z = omega (arith, (h.keys l.place l.in_list).non_zero)

-- The slots of the list are present: its length, each place, and the index of the key at each place.
module _ {s : Store} (h : Sound s) where
  pub length-present : get s length_slot ≢ 0
  unfolding list_length
  length-present z = omega (arith, h.at_least_one)

  pub place-present : (n : ℕ) → InList s n → get s (place_slot n) ≢ 0
  unfolding key_at
  place-present n i z = omega (arith, (h.keys n i).non_zero)

  pub index-present : (n : ℕ) → InList s n → get s (index_slot (key_at s n)) ≢ 0
  unfolding index_of
  index-present n i z = omega (arith, h.indexes n i, i.first)

-- Nothing is stored for a key that is not listed.
pub nothing_stored : {n : ℕ} {s : Store} → Good n s → (p : ℕ) → p < 2 ^ 192 → (Listed s p → ⊥) → (end : ℕ) → end < 2 ^ 24
    → get s (slot 0 p end) ≡ 0
nothing_stored {n} {s} g p hp unlisted end he = go (same_or_not (get s (slot 0 p end)) 0)
  where
    go : (get s (slot 0 p end) ≡ 0) ⊎ (get s (slot 0 p end) ≡ 0 → ⊥) → get s (slot 0 p end) ≡ 0
    go (inl absent) = absent
    go (inr present) =
        let f = in_procedure p hp end he in
        absurd (unlisted (belongs-listed (body_of g) f (g.sound.nothing_else (slot 0 p end) (slot-in_kernel_storage f) present)))

-- and nothing at the place behind the last
pub nothing-behind : {n : ℕ} {s : Store} → Good n s → get s (place_slot (suc (list_length s))) ≡ 0
unfolding place_slot
nothing-behind {n} {s} g = go (same_or_not (get s (place_slot (suc (list_length s)))) 0)
  where
    go : (get s (place_slot (suc (list_length s))) ≡ 0) ⊎ (get s (place_slot (suc (list_length s))) ≡ 0 → ⊥) → get s (place_slot (suc (list_length s))) ≡ 0
    go (inl absent) = absent
    go (inr present) =
        let f = place-fits (suc (list_length s)) (omega (arith, list-within g)) in
        let here = belongs-place (body_of g) f (omega arith) (g.sound.nothing_else _ (slot-in_kernel_storage f) present) in
        absurd (omega (arith, here.last))

-- Capabilities. What holds of every capability of a list holds of each that is read by its number, and the other way.
every-capability : (P : Capability → Type 0) (s : Store) (p : ℕ) (kind : Kind) (n j : ℕ) → Every P (capabilities_from s p kind n j)
    → (i : ℕ) → j ≤ i → i < j + n → P (capability s p kind i)
unfolding capabilities_from
every-capability P s p kind zero j h i a b = absurd (omega arith)
every-capability P s p kind (suc n) j h i a b = go (same_or_not i j) (every-capability P s p kind n (suc j) h.1 i)
  where
    go : (i ≡ j) ⊎ (i ≢ j) → (suc j ≤ i → i < suc j + n → P (capability s p kind i)) → P (capability s p kind i)
    go (inl q) later = rw q h.0
    go (inr d) later = later (omega arith) (omega arith)

capability-every : (P : Capability → Type 0) (s : Store) (p : ℕ) (kind : Kind) (n j : ℕ)
    → ((i : ℕ) → j ≤ i → i < j + n → P (capability s p kind i)) → Every P (capabilities_from s p kind n j)
unfolding capabilities_from
capability-every P s p kind zero j h = tt
capability-every P s p kind (suc n) j h =
    (h j (omega arith) (omega arith), capability-every P s p kind n (suc j) (λ i a b. h i (omega arith) (omega arith)))

-- the same of the capabilities that a procedure holds
pub held-each : (P : Capability → Type 0) (s : Store) (p : ℕ) (kind : Kind) → Every P (held s p kind)
    → (i : ℕ) → 1 ≤ i → i ≤ count_of s p kind → P (capability s p kind i)
unfolding held
held-each P s p kind h i a b = every-capability P s p kind (count_of s p kind) 1 h i a (omega arith)

pub each-held : (P : Capability → Type 0) (s : Store) (p : ℕ) (kind : Kind)
    → ((i : ℕ) → 1 ≤ i → i ≤ count_of s p kind → P (capability s p kind i)) → Every P (held s p kind)
unfolding held
each-held P s p kind h = capability-every P s p kind (count_of s p kind) 1 (λ i a b. h i a (omega arith))
