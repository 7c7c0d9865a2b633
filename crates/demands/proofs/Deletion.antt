-- The list after a Delete of the key p. Four slots are stored, where N is the length of the list before:
--
--   slot               held     holds
--   place_slot freed    p        moved, which was the last key
--   index_slot moved    N        freed
--   length_slot         N        N - 1
--   place_slot N        moved    0: it is no longer present
--
-- Then every slot of p is removed, and all others keep what they held; so each place of the new list came from the old one.
-- If p itself is the last key, freed is N and moved is p: what the first two lines store is cleared by the fourth and removed with p.
use Prim.Native.Nat.{ℕ, ◌^◌, ◌-◌, ◌≤◌, ◌<◌}
use native.Mathlib.Omega.{arith}
use mathlib.Core.Path.{◌≡◌, refl, sym, ap, ◌∙◌}
use mathlib.Core.Logic.{◌≢◌, ◌⊎◌, inl, inr}
use mathlib.Core.List.{List, [], ◌∷◌}
use mathlib.Core.Bool.{true}
use Rattle.rules.specs.Table.{Record, Store, ◌holds◌, get, puts}
use Rattle.rules.specs.KernelStorage.{slot, ending, index_slot, length_slot, place_slot, kernel_address_slot, current_slot, entry_slot}
use Rattle.rules.specs.Procedures.{list_length, key_at, index_of, kernel_address, current, entry_key, InList, Listed, listed}
use Rattle.rules.specs.Sound.{Sound}
use Rattle.rules.specs.Calls.{without_procedure}
use Rattle.laws.proofs.Bools.{tests-true}
use Rattle.laws.proofs.Numbers.{same_or_not}
use Rattle.laws.proofs.Stores.{get-puts-other, get-puts-last}
use Rattle.laws.proofs.Slots.{Fits, slot-middle, slot-end, place_slot-inj, regions-apart, fixed, in_procedure, one_end}
use Rattle.laws.proofs.Places.{Agree, place-fits, Came}
use Rattle.laws.proofs.Procedures.{Good, list-within}
use Rattle.demands.proofs.Removed.{other-slot, get-without}

-- The deletion of a listed key p that is neither the entry nor the current key, from a good store.
pub record Deletion (n : ℕ) (s : Store) (p : ℕ) : Type 0 where
  pub good : Good n s
  pub is_listed : listed s p ≡ true
  pub not_entry : p ≡ entry_key s → ⊥
  pub not_current : p ≡ current s → ⊥

module _ {n : ℕ} {s : Store} {p : ℕ} (d : Deletion n s p) where
  -- The four records.
  abbrev pub N : ℕ
  N = list_length s

  abbrev pub freed : ℕ
  freed = index_of s p

  abbrev pub moved : ℕ
  moved = key_at s N

  abbrev key_moved : Record
  key_moved = place_slot freed holds moved

  abbrev index_corrected : Record
  index_corrected = index_slot moved holds freed

  abbrev length_lowered : Record
  length_lowered = length_slot holds (N - 1)

  abbrev last_cleared : Record
  last_cleared = place_slot N holds 0

  abbrev pub stored : List Record
  stored = key_moved ∷ index_corrected ∷ length_lowered ∷ last_cleared ∷ []

  abbrev pub s' : Store
  s' = without_procedure p (puts s stored)

  -- What the old list is known to be.
  sound : Sound s
  sound = d.good.sound

  pub freed-in : InList s freed
  unfolding listed
  freed-in = let test = d.is_listed in search tests-true

  freed-here : key_at s freed ≡ p
  unfolding listed
  freed-here = let test = d.is_listed in search tests-true

  pub last-in : InList s N
  last-in = record { first = sound.at_least_one; last = omega arith }

  other_key : (x : ℕ) → InList s x → x ≢ freed → key_at s x ≢ p
  other_key x i other q = other (sound.distinct x freed i freed-in (q ∙ sym freed-here))

  -- Slots that fit their bytes: a place of the list, and those of a listed procedure.
  pub p-fits : p < 2 ^ 192
  p-fits = rw (← freed-here) (sound.keys freed freed-in).fits

  pub list-fits : (x : ℕ) → x ≤ N → Fits 1 x 0
  list-fits x h = place-fits x (omega (arith, list-within d.good))

  procedure-fits : (x : ℕ) → InList s x → (e : ℕ) → e < 2 ^ 24 → Fits 0 (key_at s x) e
  procedure-fits x i = in_procedure (key_at s x) (sound.keys x i).fits

  pub index-fits : (x : ℕ) → InList s x → Fits 0 (key_at s x) (ending 0 0 1)
  index-fits x i = procedure-fits x i (ending 0 0 1) one_end

  -- The four slots are apart: the length's is place 0, and the index lies in another region than the list.
  off_list : {r m e : ℕ} → Fits r m e → r ≢ 1 → (x : ℕ) → x ≤ N → slot r m e ≡ place_slot x → ⊥
  unfolding place_slot
  off_list f off x h = regions-apart f (list-fits x h) off

  place-index : (x : ℕ) → x ≤ N → place_slot x ≡ index_slot moved → ⊥
  unfolding index_slot
  place-index x h q = off_list (index-fits N last-in) (λ z. omega arith) x h (sym q)

  length-zeroth : length_slot ≡ place_slot 0
  unfolding length_slot place_slot
  length-zeroth = refl

  place-length : (x : ℕ) → 1 ≤ x → place_slot x ≡ length_slot → ⊥
  place-length x h q = let z = place_slot-inj x 0 (q ∙ length-zeroth) in omega arith

  -- The new list: the last place is cleared, the freed one has the key that moved, and every other what it had.
  left : {r m e : ℕ} → Fits r m e → (r ≡ 0 → m ≡ p → ⊥) → get s' (slot r m e) ≡ get (puts s stored) (slot r m e)
  left {r} {m} {e} f other = get-without p (puts s stored) (slot r m e) (other-slot p p-fits f other)

  place-left : (x : ℕ) → x ≤ N → key_at s' x ≡ get (puts s stored) (place_slot x)
  unfolding key_at place_slot
  place-left x h = left (list-fits x h) (λ z w. omega arith)

  length-new : list_length s' ≡ N - 1
  unfolding list_length length_slot
  length-new =
      left (fixed 1 (omega arith)) (λ z w. omega arith)
      ∙ get-puts-last s (key_moved ∷ index_corrected ∷ []) length_lowered (last_cleared ∷ []) d.good.ascending
      (λ q. place-length N sound.at_least_one (sym q), tt)

  pub last-cleared : key_at s' N ≡ 0
  last-cleared =
      place-left N (omega arith)
      ∙ get-puts-last s (key_moved ∷ index_corrected ∷ length_lowered ∷ []) last_cleared [] d.good.ascending tt

  key-freed : freed ≢ N → key_at s' freed ≡ moved
  key-freed not_last =
      place-left freed freed-in.last
      ∙ get-puts-last s [] key_moved (index_corrected ∷ length_lowered ∷ last_cleared ∷ []) d.good.ascending
      (place-index freed freed-in.last, (place-length freed freed-in.first, (λ q. not_last (place_slot-inj freed N q), tt)))

  key-kept : (x : ℕ) → InList s x → x ≢ freed → x ≢ N → key_at s' x ≡ key_at s x
  unfolding key_at
  key-kept x i other not_last =
      place-left x i.last
      ∙ get-puts-other s stored (place_slot x) (
        λ q. other (place_slot-inj x freed q),
        (place-index x i.last, (place-length x i.first, (λ q. not_last (place_slot-inj x N q), tt))),
      )

  pub in-new : (x : ℕ) → InList s x → x ≢ N → InList s' x
  in-new x i not_last = record { first = i.first; last = rw length-new (omega arith) }

  pub listed-new : (q : ℕ) → Listed s q → q ≢ p → Listed s' q
  listed-new q l not_deleted = go (same_or_not l.place N)
    where
      other : l.place ≢ freed
      other z = not_deleted (sym l.here ∙ ap (key_at s) z ∙ freed-here)

      go : (l.place ≡ N) ⊎ (l.place ≢ N) → Listed s' q
      go (inl last) =
          let not_last : freed ≢ N = λ w. other (last ∙ sym w) in
          record { place = freed; in_list = in-new freed freed-in not_last; here = key-freed not_last ∙ ap (key_at s) (sym last) ∙ l.here }
      go (inr not_last) =
          let i = l.in_list in
          record { place = l.place; in_list = in-new l.place i not_last; here = key-kept l.place i other not_last ∙ l.here }

  -- The other regions: all but the moved procedure's index is as it was.
  elsewhere : {r m e : ℕ} → Fits r m e → r ≢ 1 → (r ≡ 0 → m ≡ p → ⊥) → (slot r m e ≡ index_slot moved → ⊥)
      → get s' (slot r m e) ≡ get s (slot r m e)
  elsewhere {r} {m} {e} f off other not_index =
      left f other
      ∙ get-puts-other s stored (slot r m e) (list freed freed-in.last, (not_index, (length, (list N (omega arith), tt))))
    where
      list : (x : ℕ) → x ≤ N → slot r m e ≡ place_slot x → ⊥
      list = off_list f off

      length : slot r m e ≡ length_slot → ⊥
      length q = list 0 (omega arith) (q ∙ length-zeroth)

  fixed_kept : (r : ℕ) → r < 256 → 2 ≤ r → get s' (slot r 0 0) ≡ get s (slot r 0 0)
  unfolding index_slot
  fixed_kept r h l =
      elsewhere (fixed r h) (λ z. omega arith) (λ z w. omega arith)
      (regions-apart (fixed r h) (index-fits N last-in) (λ z. omega arith))

  pub current-kept : current s' ≡ current s
  unfolding current current_slot
  current-kept = fixed_kept 3 (omega arith) (omega arith)

  pub entry_kept : entry_key s' ≡ entry_key s
  unfolding entry_key entry_slot
  entry_kept = fixed_kept 4 (omega arith) (omega arith)

  pub kernel_address-kept : kernel_address s' ≡ kernel_address s
  unfolding kernel_address kernel_address_slot
  kernel_address-kept = fixed_kept 2 (omega arith) (omega arith)

  agrees : (x : ℕ) → InList s x → x ≢ freed → Agree s s' (key_at s x)
  unfolding index_slot ending
  agrees x i other e he not_index =
      elsewhere (procedure-fits x i e he) (λ z. omega arith) (λ z. other_key x i other)
      (λ q. not_index (slot-end (procedure-fits x i e he) (index-fits N last-in) q))

  index_kept : (x : ℕ) → InList s x → x ≢ freed → x ≢ N → index_of s' (key_at s x) ≡ x
  unfolding index_of index_slot
  index_kept x i other not_last =
      elsewhere (index-fits x i) (λ z. omega arith) (λ z. other_key x i other)
      (λ q. not_last (sound.distinct x N i last-in (slot-middle (index-fits x i) (index-fits N last-in) q)))
      ∙ sound.indexes x i

  index-moved : N ≢ freed → index_of s' moved ≡ freed
  unfolding index_of index_slot
  index-moved other =
      left (index-fits N last-in) (λ z. other_key N last-in other)
      ∙ get-puts-last s (key_moved ∷ []) index_corrected (length_lowered ∷ last_cleared ∷ []) d.good.ascending
      (λ q. place-index 0 (omega arith) (sym (q ∙ length-zeroth)), (λ q. place-index N (omega arith) (sym q), tt))

  -- So each place of the new list came from the old one.
  pub came : (x : ℕ) → InList s' x → Came s s' x
  came x i = go (same_or_not x freed)
    where
      below : x < N
      below = let h : x ≤ N - 1 = rw (← length-new) i.last in let one = sound.at_least_one in omega arith

      old : InList s x
      old = record { first = i.first; last = omega (arith, below) }

      not_last : x ≢ N
      not_last q = omega (arith, below)

      go : (x ≡ freed) ⊎ (x ≢ freed) → Came s s' x
      go (inl q) =
          let other : N ≢ freed = λ z. not_last (q ∙ sym z) in
          record {
            was = N;
            in_old = last-in;
            same_key = ap (key_at s') q ∙ key-freed (λ z. other (sym z));
            agrees = agrees N last-in other;
            new_index = index-moved other ∙ sym q;
          }
      go (inr other) =
          record {
            was = x;
            in_old = old;
            same_key = key-kept x old other not_last;
            agrees = agrees x old other;
            new_index = index_kept x old other not_last;
          }
