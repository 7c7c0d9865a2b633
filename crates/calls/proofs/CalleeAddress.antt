-- The address of a listed key, as the 20 bytes that Call answers.
use Rattle.std.proofs.Common.{ℕ, ◌-◌, ◌%◌, ◌^◌, ◌<◌, arith, ◌≡◌, sym, ap, ◌∙◌, Bool, true, div-one, mod-eq_of_lt, length, drop, length-drop, take_all}
use Rattle.rules.specs.Words.{Bytes, AllBytes, address_bytes, num, bytes_of}
use Rattle.rules.specs.Table.{get, store}
use Rattle.rules.specs.KernelStorage.{address_slot}
use Rattle.rules.specs.Procedures.{address_of, listed}
use Rattle.rules.specs.Sound.{sound_table}
use Rattle.laws.proofs.Numerals.{bytes_of-num}
use Rattle.laws.proofs.Parts.{num-part}
use Rattle.laws.proofs.Procedures.{listed-true}
use Rattle.laws.proofs.Words.{drop-bytes}
use Rattle.slots.specs.Slots.{KeyOf}
use Rattle.holding.specs.Holding.{WordOf}
use Rattle.listing.proofs.Lookups.{at_slot}
use Rattle.acting.proofs.Holder.{sound-store}

-- the last 20 bytes of a word that holds an address
pub address-bytes : (w : Bytes) → length w ≡ 32 → AllBytes w → num w < 256 ^ address_bytes
    → drop (length w - address_bytes) w ≡ bytes_of address_bytes (num w)
address-bytes w size bytes small =
    let part : Bytes = drop 12 w in
    let long : length part ≡ 20 = simp length-drop (omega (arith, size)) in
    let same : num part ≡ num w =
    ap num (sym (take_all 20 part (omega arith))) ∙ num-part w bytes 12 20 0 size ∙ ap (λ (x : ℕ). x % 256 ^ 20) (div-one (num w))
    ∙ mod-eq_of_lt small in
    rw size (sym (bytes_of-num address_bytes part long (drop-bytes 12 w bytes)) ∙ ap (bytes_of address_bytes) same)

-- the word that a listed key's address slot holds
module _ (t : Bytes) (g : sound_table t ≡ true) (key : Bytes) {slot w : Bytes} (a : KeyOf (address_slot (num key)) slot)
    (v : WordOf (get (store t) (num slot)) w) where
  pub address_word : num w ≡ address_of (store t) (num key)
  unfolding address_of
  address_word = at_slot (store t) a v

  pub address-fits : {l : Bool} → l ≡ listed (store t) (num key) → l ≡ true → num w < 256 ^ address_bytes
  address-fits e q =
      let l = listed-true (store t) (num key) (sym e ∙ q) in
      rw address_word (rw l.here at ((sound-store t g).addresses l.place l.in_list)).fits
