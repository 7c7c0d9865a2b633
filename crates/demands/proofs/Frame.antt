-- Turn, Set Entry and Write leave a store that differs, in kernel storage, at most in the current and the entry slot.
-- So every place of its list holds the procedure that it held, and it is sound as soon as those two slots hold listed keys.
use Prim.Native.Nat.{ℕ, ◌^◌, ◌≤◌, ◌<◌}
use native.Mathlib.Omega.{arith}
use native.Mathlib.Nat.{lt_of_le_of_lt}
use mathlib.Core.Path.{◌≡◌, refl, ◌∙◌}
use mathlib.Core.Logic.{◌≢◌, ◌⊎◌, inl, inr}
use mathlib.Core.Bool.{true}
use lib.Dec.{lit<}
use Rattle.rules.specs.Table.{Store, get}
use Rattle.rules.specs.KernelStorage.{in_kernel_storage, slot, ending, index_slot, length_slot, place_slot, kernel_address_slot, current_slot, entry_slot}
use Rattle.rules.specs.Procedures.{list_length, key_at, index_of, kernel_address, current, entry_key, InList, Listed, Kept}
use Rattle.rules.specs.Sound.{Belongs, current_here, entry_here, Sound}
use Rattle.laws.proofs.Numbers.{same_or_not}
use Rattle.laws.proofs.Slots.{Fits, slot-in_kernel_storage, regions-apart, fixed, in_procedure, one_end}
use Rattle.laws.proofs.Places.{place_sound_of, sound_from, Came, came-sound, came-kept, belongs-carried}

module _
    (s s' : Store)
    (h : Sound s)
    (short : list_length s < 2 ^ 192)
    (agree : (k : ℕ) → in_kernel_storage k ≡ true → (k ≡ current_slot → ⊥) → (k ≡ entry_slot → ⊥) → get s' k ≡ get s k)
  where
    -- the regions 00, 01 and 02 are the same: the procedures, the list and the kernel address
    region-same : {r m e : ℕ} → Fits r m e → r < 3 → get s' (slot r m e) ≡ get s (slot r m e)
    unfolding current_slot entry_slot
    region-same {r} {m} {e} f l =
        agree (slot r m e) (slot-in_kernel_storage f)
        (regions-apart f (fixed 3 (omega arith)) (λ q. omega arith))
        (regions-apart f (fixed 4 (omega arith)) (λ q. omega arith))

    procedure-same : (p : ℕ) → Listed s p → (e : ℕ) → e < 2 ^ 24 → get s' (slot 0 p e) ≡ get s (slot 0 p e)
    procedure-same p l e he = region-same (in_procedure p (rw (← l.here) (h.keys l.place l.in_list).fits) e he) (omega arith)

    length-same : list_length s' ≡ list_length s
    unfolding list_length length_slot
    length-same = region-same (fixed 1 (omega arith)) (omega arith)

    key-same : (n : ℕ) → n ≤ list_length s → key_at s' n ≡ key_at s n
    unfolding key_at place_slot
    key-same n l = region-same (record { region = omega arith; middle = lt_of_le_of_lt l short; end = lit< tt }) (omega arith)

    kernel_address-same : kernel_address s' ≡ kernel_address s
    unfolding kernel_address kernel_address_slot
    kernel_address-same = region-same (fixed 2 (omega arith)) (omega arith)

    -- so the list is the same
    came : (n : ℕ) → InList s' n → Came s s' n
    unfolding index_of index_slot
    came n i =
        let old : InList s n = record { first = i.first; last = rw (← length-same) i.last } in
        let same = procedure-same (key_at s n) (record { place = n; in_list = old; here = refl }) in
        record {
          was = n;
          in_old = old;
          same_key = key-same n old.last;
          agrees = λ e he d. same e he;
          new_index = same (ending 0 0 1) one_end ∙ h.indexes n old;
        }

    in-new : (n : ℕ) → InList s n → InList s' n
    in-new n i = record { first = i.first; last = rw length-same i.last }

    listed-new : (p : ℕ) → Listed s p → Listed s' p
    listed-new p l =
        record { place = l.place; in_list = in-new l.place l.in_list; here = key-same l.place l.in_list.last ∙ l.here }

    nothing-else : (k : ℕ) → in_kernel_storage k ≡ true → get s' k ≢ 0 → Belongs s' k
    nothing-else k in_k present = go (same_or_not k current_slot) (same_or_not k entry_slot)
      where
        go : (k ≡ current_slot) ⊎ (k ≡ current_slot → ⊥) → (k ≡ entry_slot) ⊎ (k ≡ entry_slot → ⊥) → Belongs s' k
        go (inl q) e = rw q current_here
        go (inr d) (inl q) = rw q entry_here
        go (inr d) (inr d') =
            belongs-carried (place_sound_of s h) (λ p l l' e he d. procedure-same p l e he) k (λ p e he q. listed-new p) (λ n q. in-new n)
            (h.nothing_else k in_k (λ z. present (agree k in_k d d' ∙ z)))

    pub framed : Listed s (current s') → Listed s (entry_key s') → Sound s'
    framed c e =
        sound_from s' (rw length-same h.at_least_one) (λ n i. came-sound h (came n i)) (listed-new _ c) (listed-new _ e)
        (rw kernel_address-same h.kernel_address_fits) nothing-else

    -- every listed procedure was listed, and holds what it held
    pub framed-same : (p : ℕ) → Listed s' p → Kept s s' p
    framed-same p l = came-kept h l (came l.place l.in_list)
