-- Delete keeps a store sound. The places of the new list came from the old one (`Deletion`), and every key that is present was
-- present: so it belongs, and the store is no longer than before.
use Prim.Native.Nat.{ℕ, ◌^◌, ◌<◌}
use native.Mathlib.Omega.{arith}
use native.Mathlib.Nat.{le_trans}
use mathlib.Core.Path.{◌≡◌, refl, sym, ap, ◌∙◌}
use mathlib.Core.Logic.{◌≢◌}
use mathlib.Core.Bool.{true, false, true≢false}
use Rattle.rules.specs.Table.{Store, get, puts, Ascending}
use Rattle.rules.specs.KernelStorage.{in_kernel_storage, slot, ending, index_slot, length_slot, place_slot}
use Rattle.rules.specs.Procedures.{key_at, current, entry_key, InList, Listed, Kept}
use Rattle.rules.specs.Sound.{Belongs, index, list_length_here, place, Sound}
use Rattle.rules.specs.Calls.{of_procedure, after_delete}
use Rattle.laws.proofs.Bools.{decide-false}
use Rattle.rules.proofs.Lists.{◌also◌}
use Rattle.laws.proofs.Stores.{puts-ascending, Misses, get-puts-other, hit-or-miss}
use Rattle.laws.proofs.Present.{no_longer}
use Rattle.laws.proofs.Slots.{Fits, slot-in_kernel_storage, fixed, one_end}
use Rattle.laws.proofs.Places.{place_sound_of, sound_from, came-sound, came-agrees, came-kept, belongs-carried}
use Rattle.laws.proofs.Procedures.{Good, length-present, place-present, index-present}
use Rattle.demands.proofs.Removed.{own-slot, own-in_kernel_storage, present-not-own, get-without, without-ascending}
use Rattle.demands.proofs.Deletion.{Deletion, N, freed, moved, stored, s', freed-in, last-in, p-fits, list-fits, index-fits, last-cleared, in-new, listed-new, current-kept, entry_kept, kernel_address-kept, came}

module _ {n : ℕ} {s : Store} {p : ℕ} (d : Deletion n s p) where
  abbrev after : Store
  after = s' d

  sound : Sound s
  sound = d.good.sound

  -- Every key that is present was present.
  present-other : (q e : ℕ) → e < 2 ^ 24 → get after (slot 0 q e) ≢ 0 → q ≢ p
  present-other q e he present z =
      true≢false (sym (rw z (own-slot p (p-fits d) e he)) ∙ present-not-own p (puts s (stored d)) (slot 0 q e) present)

  present-missed : (k : ℕ) → get after k ≢ 0 → Misses k (stored d) → get after k ≡ get s k
  present-missed k present misses =
      get-without p (puts s (stored d)) k (present-not-own p (puts s (stored d)) k present) ∙ get-puts-other s (stored d) k misses

  was-present : (k : ℕ) → get after k ≢ 0 → get s k ≢ 0
  was-present k =
      hit-or-miss (λ k. get after k ≢ 0 → get s k ≢ 0) (stored d) (
      (λ h. place-present sound (freed d) (freed-in d))
      also (λ h. index-present sound (N d) (last-in d))
      also (λ h. length-present sound)
      also (λ h. place-present sound (N d) (last-in d))
      also tt)
      k (λ misses present z. present (present-missed k present misses ∙ z))

  -- And it belongs.
  place-stays : (x : ℕ) → InList s x → get after (place_slot x) ≢ 0 → InList after x
  unfolding key_at
  place-stays x i present = in-new d x i (λ q. present (ap (key_at after) q ∙ last-cleared d))

  index-belongs : get after (index_slot (moved d)) ≢ 0 → Belongs after (index_slot (moved d))
  unfolding index_slot
  index-belongs present =
      index (listed-new d (moved d) (record { place = N d; in_list = last-in d; here = refl })
      (present-other (moved d) (ending 0 0 1) one_end present))

  nothing-else : (k : ℕ) → in_kernel_storage k ≡ true → get after k ≢ 0 → Belongs after k
  nothing-else k in_k =
      hit-or-miss (λ k. get after k ≢ 0 → Belongs after k) (stored d) (
      (λ h. place (freed d) (place-stays (freed d) (freed-in d) h))
      also index-belongs
      also (λ h. list_length_here)
      also (λ h. place (N d) (place-stays (N d) (last-in d) h))
      also tt)
      k (λ misses present. belongs-carried (place_sound_of s sound) (λ q l l'. came-agrees l' (came d l'.place l'.in_list)) k
      (λ q e he z l. listed-new d q l (present-other q e he (rw z at present)))
      (λ x z i. place-stays x i (rw z at present))
      (sound.nothing_else k in_k (λ z. present (present-missed k present misses ∙ z))))

  -- The whole: a good store,
  current-listed : Listed after (current after)
  current-listed = rw (current-kept d) (listed-new d (current s) sound.current_listed (λ z. d.not_current (sym z)))

  entry_listed : Listed after (entry_key after)
  entry_listed = rw (entry_kept d) (listed-new d (entry_key s) sound.entry_listed (λ z. d.not_entry (sym z)))

  ascends : Ascending 0 after
  ascends = without-ascending p 0 (puts s (stored d)) (puts-ascending s (stored d) d.good.ascending)

  pub delete-keeps : Good n (after_delete s p)
  unfolding after_delete
  delete-keeps =
      record {
        ascending = ascends;
        fits = le_trans (no_longer 0 after s ascends d.good.ascending was-present) d.good.fits;
        room = d.good.room;
        sound = sound_from after (le_trans current-listed.in_list.first current-listed.in_list.last)
            (λ x i. came-sound sound (came d x i)) current-listed entry_listed
            (rw (kernel_address-kept d) sound.kernel_address_fits) nothing-else;
      }

  -- in which every listed procedure was listed, and holds what it held;
  pub delete-same : (q : ℕ) → Listed (after_delete s p) q → Kept s (after_delete s p) q
  unfolding after_delete
  delete-same q l = came-kept sound l (came d l.place l.in_list)

  -- and outside kernel storage nothing changes.
  pub delete-outside : (k : ℕ) → in_kernel_storage k ≡ false → get (after_delete s p) k ≡ get s k
  unfolding after_delete place_slot index_slot length_slot
  delete-outside k =
      hit-or-miss (λ k. in_kernel_storage k ≡ false → get after k ≡ get s k) (stored d) (
      inside (list-fits d (freed d) (freed-in d).last)
      also inside (index-fits d (N d) (last-in d))
      also inside (fixed 1 (omega arith))
      also inside (list-fits d (N d) (omega arith))
      also tt)
      k (λ misses out. get-without p (puts s (stored d)) k (not_own out) ∙ get-puts-other s (stored d) k misses)
    where
      inside : {r m e : ℕ} → Fits r m e → in_kernel_storage (slot r m e) ≡ false → get after (slot r m e) ≡ get s (slot r m e)
      inside f out = absurd (true≢false (sym (slot-in_kernel_storage f) ∙ out))

      not_own : in_kernel_storage k ≡ false → of_procedure p k ≡ false
      not_own out = decide-false _ (λ own. true≢false (sym (own-in_kernel_storage p (p-fits d) k own) ∙ out))
