-- A set-up that succeeds leaves a sound store: it registers the first procedure in a store of three records, the kernel address,
-- the current and the entry key. That store lists nobody, which is all that Register needs of it.
use Prim.Native.Nat.{ℕ, suc, ◌-◌, ◌^◌, ◌≤◌, ◌<◌}
use native.Mathlib.Omega.{arith}
use mathlib.Core.Path.{◌≡◌, refl, ◌∙◌}
use mathlib.Core.List.{List, [], ◌∷◌}
use mathlib.Core.Bool.{true}
use lib.Dec.{lit<}
use lib.ListN.{length}
use Rattle.rules.specs.Words.{Every}
use Rattle.rules.specs.Table.{Store, Record, ◌holds◌, get, Ascending, Sized}
use Rattle.rules.specs.KernelStorage.{slot, length_slot, kernel_address_slot, current_slot, entry_slot}
use Rattle.rules.specs.Capabilities.{Kind, call, register, delete, set_entry, write, number, word_count, Capability, word_of, prefix, greatest_prefix, prefix_up_to, prefix_in_range}
use Rattle.rules.specs.Procedures.{list_length, kernel_address, current, entry_key, InList}
use Rattle.rules.specs.Sound.{IsKey, IsAddress, Belongs, kernel_address_here, current_here, entry_here, Sound}
use Rattle.rules.specs.Messages.{same_kind, requested_of}
use Rattle.rules.specs.Calls.{first_capabilities, fixed_records, fresh}
use Rattle.rules.proofs.Lists.{◌also◌}
use Rattle.laws.proofs.Stores.{get_none, puts-ascending, Misses, get-puts-other, hit-or-miss}
use Rattle.laws.proofs.Rows.{member}
use Rattle.laws.proofs.Records.{Stored, puts-stored, Rising, rising-misses, rising-apart}
use Rattle.laws.proofs.Slots.{fixed}
use Rattle.laws.proofs.Places.{Body}
use Rattle.laws.proofs.RegisterRecords.{Proper, Storable, Registration}
use Rattle.demands.proofs.Register.{registered-ascends, register-sound, registered-own}
use Rattle.demands.proofs.SizedStores.{puts-sized, key-word, address_word, slot-word, current-slot-word, entry-slot-word, after_register-sized, OfWords}

-- Of each type one capability is requested, and it may be stored.
record First (kind : Kind) (cs : List Capability) : Type 0 where
  few : length cs ≤ 255
  proper : Every (Proper kind) cs
  words : Every (Every (λ w. w < 2 ^ 256)) cs

one-capability : (kind : Kind) (c : Capability) → length c ≡ word_count kind → prefix_in_range kind c ≡ true → Every (λ w. w < 2 ^ 256) c
    → First kind (c ∷ [])
one-capability kind c long prefix_fits words =
    record { few = omega arith; proper = (record { words = long; prefix_fits = prefix_fits }, tt); words = (words, tt) }

first : (kind : Kind) → First kind (requested_of kind first_capabilities)
unfolding requested_of first_capabilities same_kind number word_count prefix_up_to prefix word_of greatest_prefix
first call = one-capability call (0 ∷ []) refl refl (lit< tt, tt)
first register = one-capability register (0 ∷ []) refl refl (lit< tt, tt)
first delete = one-capability delete (0 ∷ []) refl refl (lit< tt, tt)
first set_entry = one-capability set_entry [] refl refl tt
first write = one-capability write (0 ∷ (2 ^ 256 - 1) ∷ []) refl refl (lit< tt, (lit< tt, tt))

first-storable : Storable first_capabilities
first-storable = record { few = λ kind. (first kind).few; proper = λ kind. (first kind).proper }

-- What set-up is given: a key, its address and the kernel address.
pub record Given (k a ka : ℕ) : Type 0 where
  pub is_key : IsKey k
  pub is_address : IsAddress a
  pub kernel_fits : IsAddress ka

module _ {k a ka : ℕ} (given : Given k a ka) where
  -- The store before: three records, and an empty list.
  abbrev s₀ : Store
  s₀ = fixed_records k ka

  abbrev records : List Record
  records = kernel_address_slot holds ka ∷ current_slot holds k ∷ entry_slot holds k ∷ []

  ascends : Ascending 0 s₀
  unfolding fixed_records
  ascends = puts-ascending [] records tt

  rises : Rising (suc length_slot) (suc entry_slot) records
  unfolding length_slot kernel_address_slot current_slot entry_slot slot
  rises = (lit< tt, (lit< tt, (lit< tt, lit< tt)))

  stored : Stored s₀ records
  unfolding fixed_records
  stored = puts-stored [] records tt (rising-apart _ _ records rises)

  get_other : (x : ℕ) → Misses x records → get s₀ x ≡ 0
  unfolding fixed_records
  get_other x misses = get-puts-other [] records x misses ∙ get_none x

  kernel_address-is : kernel_address s₀ ≡ ka
  unfolding kernel_address
  kernel_address-is = stored (kernel_address_slot holds ka) (search member)

  current-is : current s₀ ≡ k
  unfolding current
  current-is = stored (current_slot holds k) (search member)

  entry-is : entry_key s₀ ≡ k
  unfolding entry_key
  entry-is = stored (entry_slot holds k) (search member)

  length-is : list_length s₀ ≡ 0
  unfolding list_length
  length-is = get_other length_slot (rising-misses _ _ records rises length_slot (λ from below. omega arith))

  nobody : (n : ℕ) → InList s₀ n → ⊥
  nobody n i = omega (arith, length-is)

  body : Body s₀
  body =
      record {
        short = omega (arith, length-is);
        places = λ n i. absurd (nobody n i);
        nothing_else = λ x inside present.
            hit-or-miss (Belongs s₀) records (kernel_address_here also current_here also entry_here also tt) x
            (λ misses. absurd (present (get_other x misses)));
      }

  -- There the first procedure is registered.
  registration : Registration s₀ k a first_capabilities
  registration =
      record {
        ascending = ascends;
        body = body;
        is_key = given.is_key;
        is_address = given.is_address;
        storable = first-storable;
        unlisted = λ l. nobody l.place l.in_list;
      }

  pub fresh-ascends : Ascending 0 (fresh k a ka)
  unfolding fresh
  fresh-ascends = registered-ascends registration

  pub fresh-sound : Sound (fresh k a ka)
  unfolding fresh
  fresh-sound =
      let listed = registered-own registration in
      register-sound registration (rw current-is listed) (rw entry-is listed) (rw kernel_address-is given.kernel_fits)

  pub fresh-sized : Sized (fresh k a ka)
  unfolding fresh fixed_records kernel_address_slot
  fresh-sized = after_register-sized registration (puts-sized [] records words tt) (λ kind. (first kind).words)
    where
      key : k < 2 ^ 256
      key = key-word k given.is_key.fits

      words : Every OfWords records
      words =
          (slot-word (fixed 2 (omega arith)), address_word ka given.kernel_fits.fits)
          also (current-slot-word, key)
          also (entry-slot-word, key)
          also tt
