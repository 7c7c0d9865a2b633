-- "Set-up needs 13 records (832 bytes)": the store after set-up, record by record, for every key and every two addresses.
-- Each group of records that set-up puts ascends by key and stands before the groups put earlier, so it is put in front of them.
use Prim.Native.Nat.{ℕ, suc, ◌+◌, ◌/◌, ◌^◌, ◌≤◌, ◌<◌}
use native.Mathlib.Omega.{arith}
use native.Mathlib.Nat.{le_refl, lt_trans}
use mathlib.Core.Path.{◌≡◌, refl, ap, ◌∙◌}
use mathlib.Core.List.{List, [], ◌∷◌}
use mathlib.Core.Bool.{Bool, true, false}
use lib.Dec.{ltb, lit<}
use lib.ListN.{length}
use borrow.Author.Tests.{lt-ltb, le-ltb, ltb-true, ltb-false}
use Rattle.rules.specs.Words.{Bytes}
use Rattle.rules.specs.Table.{record_size, Record, ◌holds◌, Store, get, put, puts, record_before, room, Ascending}
use Rattle.rules.specs.KernelStorage.{ending, address_slot, index_slot, count_slot, word_slot, length_slot, place_slot, kernel_address_slot, current_slot, entry_slot}
use Rattle.rules.specs.Capabilities.{write, number}
use Rattle.rules.specs.Procedures.{list_length}
use Rattle.rules.specs.Sound.{IsKey, IsAddress}
use Rattle.rules.specs.Messages.{same_kind, requested_of}
use Rattle.rules.specs.Examples.{first_records}
use Rattle.rules.specs.Calls.{no_room, word_records, capability_records, kind_records, after_register, first_capabilities, fixed_records, fresh}
use Rattle.laws.proofs.Stores.{get-below, ascending-lower, put_first, puts-all, AscendingBefore, records_before, record_before-present, puts-before}
use Rattle.laws.proofs.NewRecords.{procedure_records, own_below}
use Rattle.laws.proofs.Slots.{fixed, in_procedure, at_place, slot-less-region, slot-less-middle, slot-less-end}

-- The 13 records: regions 02, 03 and 04; before them the list, region 01; before it the procedure's own, region 00.
abbrev fixed_store : (key kernel_address : ℕ) → Store
fixed_store k ka = kernel_address_slot holds ka ∷ current_slot holds k ∷ entry_slot holds k ∷ []

abbrev list_store : (key kernel_address : ℕ) → Store
list_store k ka = length_slot holds 1 ∷ place_slot 1 holds k ∷ fixed_store k ka

-- what is put for the procedure: a word of value zero, as that of Call(0,0), leaves no record
abbrev own_records : (key address : ℕ) → List Record
own_records k a = procedure_records 1 k a first_capabilities

place-first : place_slot 1 < kernel_address_slot
unfolding place_slot kernel_address_slot
place-first = slot-less-region 0 0 (at_place 1 (lit< tt)) (omega arith)

length-first : length_slot < place_slot 1
unfolding length_slot place_slot
length-first = slot-less-middle 0 (fixed 1 (omega arith)) (omega arith)

module _ (k a ka : ℕ) (is_key : IsKey k) (is_address : IsAddress a) (kernel_fits : IsAddress ka) where
  fixed-ascends : Ascending kernel_address_slot (fixed_store k ka)
  unfolding kernel_address_slot current_slot entry_slot
  fixed-ascends = (
    omega arith,
    kernel_fits.non_zero,
    (
      slot-less-region 0 0 (fixed 2 (omega arith)) (omega arith),
      is_key.non_zero,
      (slot-less-region 0 0 (fixed 3 (omega arith)) (omega arith), is_key.non_zero, tt),
    ),
  )

  above_place : Ascending (suc (place_slot 1)) (fixed_store k ka)
  above_place = ascending-lower (suc (place_slot 1)) kernel_address_slot (fixed_store k ka) place-first fixed-ascends

  above-length : Ascending (suc length_slot) (place_slot 1 holds k ∷ fixed_store k ka)
  above-length = (length-first, is_key.non_zero, above_place)

  above-own : Ascending (suc (word_slot k (number write) 1 1)) (list_store k ka)
  unfolding word_slot number ending length_slot
  above-own = (slot-less-region 0 0 (in_procedure k is_key.fits _ (lit< tt)) (omega arith), omega arith, above-length)

  -- the ends of the slots, as literals, ascend
  own-ascend : AscendingBefore (address_slot k) (own_records k a) (list_store k ka)
  unfolding address_slot index_slot count_slot word_slot ending kind_records capability_records word_records requested_of first_capabilities same_kind number
  own-ascend = search (slot-less-end, lit<, le_refl, above-own) depth 20

  fixed-is : fixed_records k ka ≡ fixed_store k ka
  unfolding fixed_records
  fixed-is = puts-all kernel_address_slot (fixed_store k ka) fixed-ascends

  none-listed : list_length (fixed_store k ka) ≡ 0
  unfolding list_length
  none-listed = get-below kernel_address_slot (fixed_store k ka) length_slot fixed-ascends (lt_trans length-first place-first)

  -- for callers that store them: they are three, and no procedure is listed yet
  pub fixed-three : length (fixed_records k ka) ≡ 3
  fixed-three = ap length fixed-is

  pub fixed-lists-none : list_length (fixed_records k ka) ≡ 0
  fixed-lists-none = ap list_length fixed-is ∙ none-listed

  -- nor has the procedure a record
  pub fixed-none-of : (x : ℕ) → address_slot k ≤ x → x < address_slot k + 2 ^ 24 → get (fixed_records k ka) x ≡ 0
  unfolding kernel_address_slot
  fixed-none-of x from below =
      ap (λ s. get s x) fixed-is
      ∙ get-below kernel_address_slot (fixed_store k ka) x fixed-ascends (own_below k is_key.fits x from below 2 0 0 (omega arith))

  list-is : put (put (fixed_store k ka) (place_slot 1) k) length_slot 1 ≡ list_store k ka
  unfolding record_before
  list-is =
      rw (put_first (fixed_store k ka) (place_slot 1) k above_place)
      (rw (record_before-present (place_slot 1) k (fixed_store k ka) is_key.non_zero)
      (put_first (place_slot 1 holds k ∷ fixed_store k ka) length_slot 1 above-length))

  own_is : records_before (own_records k a) (list_store k ka) ≡ first_records k a ka
  unfolding records_before record_before kind_records capability_records word_records requested_of first_capabilities same_kind number
  own_is = record_before-present (address_slot k) a _ is_address.non_zero

  pub fresh-records : fresh k a ka ≡ first_records k a ka
  unfolding fresh after_register puts
  fresh-records =
      rw (fixed-is, none-listed) (
      ap (λ s. puts s (own_records k a)) list-is
      ∙ puts-before (address_slot k) (own_records k a) (list_store k ka) own-ascend
      ∙ own_is)

  pub set-up-needs-13 : length (fresh k a ka) ≡ 13
  set-up-needs-13 = ap length fresh-records

  pub set-up-room : (t : Bytes) → no_room (room t) (fresh k a ka) ≡ ltb (room t) 13
  unfolding no_room
  set-up-room t = ap (ltb (room t)) set-up-needs-13

  -- and in bytes: a table shorter than 832 has no room, any other has
  pub set-up-bytes : (t : Bytes) → no_room (room t) (fresh k a ka) ≡ ltb (length t) 832
  unfolding room
  set-up-bytes t = set-up-room t ∙ go (ltb (length t) 832) refl
    where
      go : (b : Bool) → ltb (length t) 832 ≡ b → ltb (length t / record_size) 13 ≡ b
      go true q = let h = ltb-true (length t) 832 q in lt-ltb (length t / record_size) 13 (omega (arith, h))
      go false q = let h = ltb-false (length t) 832 q in le-ltb (length t / record_size) 13 (omega (arith, h))
