-- Register keeps a store sound, and the new procedure holds what was requested. The records that it stores have different keys,
-- so each is read again as it was stored; they are the new procedure's, its place and the length, and every other slot is kept.
use Prim.Native.Nat.{ℕ, suc, ◌^◌, ◌≤◌, ◌<◌}
use native.Mathlib.Omega.{arith}
use mathlib.Core.Path.{◌≡◌, sym, ap, ◌∙◌}
use mathlib.Core.Logic.{◌≢◌, ◌⊎◌, inl, inr}
use mathlib.Core.List.{List}
use mathlib.Core.Bool.{true, false, true≢false}
use lib.ListN.{length}
use Rattle.rules.specs.Words.{Every}
use Rattle.rules.specs.Table.{Store, Record, ◌holds◌, get, Ascending}
use Rattle.rules.specs.KernelStorage.{in_kernel_storage, slot, ending, address_slot, index_slot, length_slot, place_slot, kernel_address_slot, current_slot, entry_slot}
use Rattle.rules.specs.Capabilities.{Kind, kinds, prefix_in_range}
use Rattle.rules.specs.Procedures.{list_length, key_at, address_of, index_of, kernel_address, current, entry_key, held, InList, Listed, Kept}
use Rattle.rules.specs.Sound.{IsAddress, Belongs, address, index, list_length_here, place, Sound}
use Rattle.rules.specs.Messages.{Request, requested_of}
use Rattle.rules.specs.Calls.{after_register}
use Rattle.rules.proofs.Lists.{◌also◌}
use Rattle.laws.proofs.Numbers.{same_or_not}
use Rattle.laws.proofs.Lists.{every_map}
use Rattle.laws.proofs.Stores.{puts-ascending, Misses, get-puts-other, hit-or-miss}
use Rattle.laws.proofs.Rows.{member}
use Rattle.laws.proofs.Records.{Stored, puts-stored}
use Rattle.laws.proofs.Slots.{Fits, slot-region, slot-middle, slot-in_kernel_storage, fixed, in_procedure, one_end}
use Rattle.laws.proofs.KindFacts.{in-kinds}
use Rattle.laws.proofs.Places.{PlaceSound, carried, sound_from, same_from, listed-fits, place-fits, belongs-carried}
use Rattle.laws.proofs.Procedures.{Good, held-each}
use Rattle.laws.proofs.RegisterRecords.{Proper, Registration, Requested, kinds-read, kinds-belong}
use Rattle.laws.proofs.NewRecords.{new_records, new-fits, length-fits, own-fits, own-misses, apart}

module _ {s : Store} {p a : ℕ} {rs : List Request} (new : Registration s p a rs) where
  abbrev N : ℕ
  N = list_length s

  abbrev s' : Store
  s' = after_register s p a rs

  -- what is stored
  abbrev records : List Record
  records = new_records (suc N) p a rs

  stored : Stored s' records
  unfolding after_register
  stored = puts-stored s records new.ascending (apart new)

  -- Every other slot is kept.
  other-kept : (k : ℕ) → Misses k records → get s' k ≡ get s k
  unfolding after_register
  other-kept = get-puts-other s records

  slot_kept : {r m e : ℕ} → Fits r m e → (r ≡ 0 → m ≡ p → ⊥) → (r ≡ 1 → InList s m) → get s' (slot r m e) ≡ get s (slot r m e)
  unfolding place_slot length_slot
  slot_kept {r} {m} {e} f not_own in_list =
      other-kept (slot r m e) (
        not-in-list (new-fits new) (λ i z. omega arith),
        (not-in-list (length-fits new) (λ i z. omega arith), own-misses new (slot r m e) misses_own),
      )
    where
      not-in-list : {n e' : ℕ} → Fits 1 n e' → (InList s m → m ≡ n → ⊥) → slot r m e ≡ slot 1 n e' → ⊥
      not-in-list f' beyond q = beyond (in_list (slot-region f f' q)) (slot-middle f f' q)

      misses_own : (e' : ℕ) → e' < 2 ^ 24 → slot r m e ≡ slot 0 p e' → ⊥
      misses_own e' h q = not_own (slot-region f (own-fits new e' h) q) (slot-middle f (own-fits new e' h) q)

  place_kept : (n : ℕ) → InList s n → key_at s' n ≡ key_at s n
  unfolding key_at place_slot
  place_kept n i = slot_kept (place-fits n (omega arith)) (λ z. absurd (omega arith)) (λ z. i)

  procedure-kept : (q : ℕ) → q < 2 ^ 192 → (q ≡ p → ⊥) → (e : ℕ) → e < 2 ^ 24 → get s' (slot 0 q e) ≡ get s (slot 0 q e)
  procedure-kept q fits other e h = slot_kept (in_procedure q fits e h) (λ z. other) (λ z. absurd (omega arith))

  fixed_kept : (r : ℕ) → r < 256 → 2 ≤ r → get s' (slot r 0 0) ≡ get s (slot r 0 0)
  fixed_kept r h l = slot_kept (fixed r h) (λ z. absurd (omega arith)) (λ z. absurd (omega arith))

  kernel_address-kept : kernel_address s' ≡ kernel_address s
  unfolding kernel_address kernel_address_slot
  kernel_address-kept = fixed_kept 2 (omega arith) (omega arith)

  current-kept : current s' ≡ current s
  unfolding current current_slot
  current-kept = fixed_kept 3 (omega arith) (omega arith)

  entry_kept : entry_key s' ≡ entry_key s
  unfolding entry_key entry_slot
  entry_kept = fixed_kept 4 (omega arith) (omega arith)

  pub registered-outside : (k : ℕ) → in_kernel_storage k ≡ false → get s' k ≡ get s k
  unfolding place_slot length_slot
  registered-outside k outside =
      other-kept k (no_slot (new-fits new), (no_slot (length-fits new), own-misses new k (λ e h. no_slot (own-fits new e h))))
    where
      no_slot : {r m e : ℕ} → Fits r m e → k ≡ slot r m e → ⊥
      no_slot f q = true≢false (sym (slot-in_kernel_storage f) ∙ sym (ap in_kernel_storage q) ∙ outside)

  -- What is read of the records that are stored.
  longer : list_length s' ≡ suc N
  unfolding list_length
  longer = stored (length_slot holds suc N) (search member)

  new-key : key_at s' (suc N) ≡ p
  unfolding key_at
  new-key = stored (place_slot (suc N) holds p) (search member)

  new-address : address_of s' p ≡ a
  unfolding address_of
  new-address = stored (address_slot p holds a) (search member)

  new-index : index_of s' p ≡ suc N
  unfolding index_of
  new-index = stored (index_slot p holds suc N) (search member)

  requested : (kind : Kind) → Requested s' p rs kind
  requested kind = kinds-read s' p rs new.storable kinds (λ x i. stored x (search member)) kind (in-kinds kind)

  pub registered-held : (kind : Kind) → held s' p kind ≡ requested_of kind rs
  registered-held kind = (requested kind).all

  -- The list has one place more, and the new procedure stands there.
  in-new : (n : ℕ) → InList s n → InList s' n
  in-new n i = record { first = i.first; last = rw longer (omega arith) }

  in-old : (n : ℕ) → InList s' n → n ≢ suc N → InList s n
  in-old n i other = record { first = i.first; last = let last = rw longer at i.last in omega arith }

  last-new : InList s' (suc N)
  last-new = record { first = omega arith; last = rw longer (omega arith) }

  registered-listed : (q : ℕ) → Listed s q → Listed s' q
  registered-listed q l =
      record { place = l.place; in_list = in-new l.place l.in_list; here = place_kept l.place l.in_list ∙ l.here }

  pub registered-own : Listed s' p
  registered-own = record { place = suc N; in_list = last-new; here = new-key }

  -- Each place is sound.
  new-place-sound : PlaceSound s' (suc N)
  new-place-sound =
      record {
        key = rw new-key new.is_key;
        address_fits = rw new-key (rw new-address new.is_address);
        index = rw new-key new-index;
        counts = λ kind. rw new-key (rw (requested kind).counted (new.storable.few kind));
        prefixes = λ kind. rw new-key (held-each (λ c. prefix_in_range kind c ≡ true) s' p kind (prefixes kind));
      }
    where
      prefixes : (kind : Kind) → Every (λ c. prefix_in_range kind c ≡ true) (held s' p kind)
      prefixes kind =
          rw registered-held (every_map (Proper kind) _ (λ c proper. proper.prefix_fits) (requested_of kind rs) (new.storable.proper kind))

  old-place-sound : (n : ℕ) → InList s n → PlaceSound s' n
  unfolding index_of index_slot
  old-place-sound n i =
      let old = new.body.places n i in
      let kept = procedure-kept (key_at s n) old.key.fits (λ z. new.unlisted (record { place = n; in_list = i; here = z })) in
      carried s s' n n old (place_kept n i) (λ e h not_index. kept e h) (kept (ending 0 0 1) one_end ∙ old.index)

  place-sound : (n : ℕ) → InList s' n → PlaceSound s' n
  place-sound n i = go (same_or_not n (suc N))
    where
      go : (n ≡ suc N) ⊎ (n ≢ suc N) → PlaceSound s' n
      go (inl q) = rw q new-place-sound
      go (inr other) = old-place-sound n (in-old n i other)

  -- Each key of kernel storage that is present belongs.
  belongs-kept : {k : ℕ} → Belongs s k → Belongs s' k
  belongs-kept {k} =
      belongs-carried new.body.places
      (λ q l now e h not_index. procedure-kept q (listed-fits new.body l) (λ z. new.unlisted (rw z at l)) e h) k
      (λ q e h at. registered-listed q)
      (λ n at. in-new n)

  present-belongs : (k : ℕ) → in_kernel_storage k ≡ true → get s' k ≢ 0 → Belongs s' k
  present-belongs k inside present =
      hit-or-miss (Belongs s') records (
      place (suc N) last-new
      also list_length_here
      also address registered-own
      also index registered-own
      also kinds-belong s' p registered-own rs new.storable requested kinds)
      k (λ misses. belongs-kept (new.body.nothing_else k inside (λ z. present (other-kept k misses ∙ z))))

  -- The whole.
  pub registered-ascends : Ascending 0 s'
  unfolding after_register
  registered-ascends = puts-ascending s records new.ascending

  pub register-sound : Listed s' (current s) → Listed s' (entry_key s) → IsAddress (kernel_address s) → Sound s'
  register-sound current_listed entry_listed kernel_address_fits =
      sound_from s' (rw longer (omega arith)) place-sound (rw current-kept current_listed) (rw entry_kept entry_listed)
      (rw kernel_address-kept kernel_address_fits) present-belongs

  -- every other listed procedure was listed, and holds what it held
  pub register-same : (q : ℕ) → (q ≡ p → ⊥) → Listed s' q → Kept s s' q
  register-same q other l =
      same_from s s' q was (new.body.places l.place was.in_list)
      (λ e h not_index. procedure-kept q (listed-fits new.body was) other e h)
    where
      in_list : InList s l.place
      in_list = in-old l.place l.in_list (λ z. other (sym l.here ∙ ap (key_at s') z ∙ new-key))

      was : Listed s q
      was = record { place = l.place; in_list = in_list; here = sym (place_kept l.place in_list) ∙ l.here }

  -- in a table with room for n records
  pub register-keeps : {n : ℕ} → Good n s → length s' ≤ n → Good n s'
  register-keeps g fits =
      record {
        ascending = registered-ascends;
        fits = fits;
        room = g.room;
        sound = register-sound (registered-listed (current s) g.sound.current_listed)
            (registered-listed (entry_key s) g.sound.entry_listed) g.sound.kernel_address_fits;
      }
