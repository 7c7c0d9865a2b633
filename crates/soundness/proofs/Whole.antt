-- The list, the procedures and what is asked besides: together they are the walk, and the walk is the rules' test.
use Rattle.std.proofs.Common.{ℕ, ◌+◌, ◌-◌, ◌<◌, min, arith, ◌≡◌, refl, sym, ap, ◌∙◌, Bool, true, false, length, Option, None, Some, Result, Ok, Err}
use Rattle.rules.specs.Words.{Bytes, num}
use Rattle.rules.specs.Table.{Store, get, store, record_form}
use Rattle.rules.specs.KernelStorage.{length_slot, kernel_address_slot, current_slot, entry_slot}
use Rattle.rules.specs.Procedures.{list_length, kernel_address, current, entry_key, listed}
use Rattle.rules.specs.Sound.{is_key, is_address, sound, sound_table}
use Rattle.laws.proofs.Bools.{and_left}
use Rattle.laws.proofs.Procedures.{list-short}
use Rattle.laws.proofs.TableDecides.{sound_table-good}
use Rattle.laws.proofs.TableRecords.{formed}
use Rattle.words.specs.Words.{small_limit}
use Rattle.slots.specs.Slots.{KeyOf}
use Rattle.finding.specs.Finding.{keys_below}
use Rattle.walks.specs.Walks.{before_list, list_form, blocks_form, walked}
use Rattle.walks.proofs.WalkDecides.{listed-key, sound-walked}
use Rattle.lists.specs.Lists.{Laid}
use Rattle.lists.proofs.LaidRows.{laid-room, is-laid}
use Rattle.table.specs.Tables.{form_of}
use Rattle.table.proofs.Forms.{used-form, used-count, bad-form}
use Rattle.holding.specs.Holding.{WordOf}
use Rattle.rules.specs.Answers.{ef, code_number}
use Rattle.rules.specs.declared.Refusal.{Refusal as Code}
use Rattle.key_words.specs.KeyWords.{KeyPart}
use Rattle.finding.specs.declared.Records.{Records}
use Rattle.listing.specs.Listings.{Listing}
use Rattle.soundness.specs.Soundness.{SoundList, rest_sound, soundness_of}
use Rattle.listing.proofs.Lookups.{at_slot, word-key, few}

-- a key in a word, where only a key is listed
module _ {x : ℕ} {w : Bytes} (v : WordOf x w) {a : Bool} (e : a ≡ is_key (num w)) where
  pub key-listed : (s : Store) → a ≡ true → {part : Bytes} → KeyPart (num w) part → {r : Bool} → r ≡ listed s (num part) → r ≡ listed s x
  key-listed s q p d = d ∙ ap (listed s) (word-key v e q p)

-- what is asked besides the list
module _ (s : Store) {of_current : Bytes} (k : KeyOf current_slot of_current) {a : Bool} (e : a ≡ listed s (get s (num of_current))) where
  current-is : {b : Bool} → a ≡ b → listed s (current s) ≡ b
  unfolding current
  current-is q = ap (λ (x : ℕ). listed s (get s x)) (sym k.number) ∙ sym e ∙ q

  pub current-not : a ≡ false → false ≡ rest_sound s
  unfolding rest_sound
  current-not q = rw (current-is q)

  module _ (q : a ≡ true) {of_entry : Bytes} (l : KeyOf entry_slot of_entry) {b : Bool} (f : b ≡ listed s (get s (num of_entry))) where
    entry-is : {x : Bool} → b ≡ x → listed s (entry_key s) ≡ x
    unfolding entry_key
    entry-is z = ap (λ (x : ℕ). listed s (get s x)) (sym l.number) ∙ sym f ∙ z

    pub entry-not : b ≡ false → false ≡ rest_sound s
    unfolding rest_sound
    entry-not z = rw (current-is q, entry-is z)

    module _ (z : b ≡ true) {of_address w : Bytes} (m : KeyOf kernel_address_slot of_address) (v : WordOf (get s (num of_address)) w)
        {c : Bool} (g : c ≡ is_address (num w)) where
      address_is : is_address (kernel_address s) ≡ c
      unfolding kernel_address
      address_is = ap is_address (sym (at_slot s m v)) ∙ sym g

      pub address-if : c ≡ rest_sound s
      unfolding rest_sound
      address-if = rw (current-is q, entry-is z, address_is)

-- the records of a table: the list, then the procedures, then the rest
module _ (table : Records) {list : ℕ} {slot : Bytes} (k : KeyOf length_slot slot)
    (b : list ≡ keys_below (store table.bytes.now) (num slot)) where
  pub before-list : list ≡ before_list (store table.bytes.now)
  unfolding before_list
  before-list = b ∙ ap (keys_below (store table.bytes.now)) k.number

  is-walked : sound (store table.bytes.now) ≡ walked (store table.bytes.now)
  is-walked =
      let f = formed table.bytes.now table.form in
      sound-walked (store table.bytes.now) f.ascends f.words (omega (arith, f.fits, f.few))

  module _ {a : Bool} (e : a ≡ list_form (store table.bytes.now)) where
    pub list-not : a ≡ false → false ≡ sound (store table.bytes.now)
    unfolding walked
    list-not q = sym (is-walked ∙ rw (sym e ∙ q))

    module _ (q : a ≡ true) where
      rows : list_form (store table.bytes.now) ≡ true
      rows = sym e ∙ q

      pub room : list + 4 < table.used
      room = laid-room table before-list rows

      pub laid : Laid table list (table.used - list - 4)
      laid = is-laid table before-list rows

      module _ {c : Bool} (f : c ≡ blocks_form (store table.bytes.now)) where
        pub blocks-not : c ≡ false → false ≡ sound (store table.bytes.now)
        unfolding walked
        blocks-not z = sym (is-walked ∙ rw (rows, sym f ∙ z))

        pub sound-list : c ≡ true → SoundList table (table.used - list - 4)
        sound-list z =
            record {
              all = laid.all;
              short = omega arith;
              keys = listed-key (store table.bytes.now) (formed table.bytes.now table.form).ascends rows (sym f ∙ z);
            }

        pub rest-if : c ≡ true → {r : Bool} → r ≡ rest_sound (store table.bytes.now) → r ≡ sound (store table.bytes.now)
        unfolding walked rest_sound
        rest-if z h = h ∙ sym (is-walked ∙ rw (rows, sym f ∙ z))

-- the refusal of a table that is not sound
abbrev pub refused : Result ℕ Code
refused = Err (record { 0 = code_number ef })

-- the whole
module _ (t : Bytes) {r : Option ℕ} (e : r ≡ form_of t) where
  answer : {b : Bool} → record_form t ≡ true → sound (store t) ≡ b → sound_table t ≡ b
  unfolding sound_table
  answer f q = rw f q

  pub form-bad : r ≡ None → refused ≡ soundness_of t
  unfolding soundness_of
  form-bad h = sym (rw (bad h, soundness_of))
    where
      bad : r ≡ None → sound_table t ≡ false
      bad h = unfold sound_table in rw (bad-form t e h)

  pub store-unsound : {n : ℕ} → r ≡ Some n → {b : Bool} → b ≡ sound (store t) → b ≡ false → refused ≡ soundness_of t
  unfolding soundness_of
  store-unsound h d q = let no : sound_table t ≡ false = answer (used-form t e h) (sym d ∙ q) in sym (rw (no, soundness_of))

  pub store-sound : {n : ℕ} → r ≡ Some n → {b : Bool} → b ≡ sound (store t) → b ≡ true → Ok n ≡ soundness_of t
  unfolding soundness_of
  store-sound h d q =
      let yes : sound_table t ≡ true = answer (used-form t e h) (sym d ∙ q) in
      ap Ok (used-count t e h) ∙ sym (rw (yes, soundness_of))

-- a sound table has the record form
pub sound-form : (t : Bytes) → sound_table t ≡ true → record_form t ≡ true
unfolding sound_table
sound-form t s = and_left _ _ s

-- what the answer tells a caller
module _ (t : Bytes) {r : Result ℕ Code} (e : r ≡ soundness_of t) where
  pub sound-table : {n : ℕ} → r ≡ Ok n → sound_table t ≡ true
  unfolding soundness_of
  sound-table {n} h = go (sound_table t) refl
    where
      go : (b : Bool) → sound_table t ≡ b → sound_table t ≡ true
      go true q = q
      go false q =
          let no : soundness_of t ≡ refused = rw (q, soundness_of) in
          let z : ◌≡◌ {A = ℕ} 0 1 = cc in
          absurd (omega arith)

  pub sound-count : {n : ℕ} → r ≡ Ok n → n ≡ length (store t)
  unfolding soundness_of
  sound-count h = let yes : soundness_of t ≡ Ok (length (store t)) = rw (sound-table h, soundness_of) in cc

  pub unsound-table : {code : Code} → r ≡ Err code → sound_table t ≡ false
  unfolding soundness_of
  unsound-table h = go (sound_table t) refl
    where
      go : (b : Bool) → sound_table t ≡ b → sound_table t ≡ false
      go false q = q
      go true q =
          let yes : soundness_of t ≡ Ok (length (store t)) = rw (q, soundness_of) in
          let z : ◌≡◌ {A = ℕ} 0 1 = cc in
          absurd (omega arith)

  pub unsound-code : {code : Code} → r ≡ Err code → code ≡ record { 0 = code_number ef }
  unfolding soundness_of
  unsound-code h = let no : soundness_of t ≡ refused = rw (unsound-table h, soundness_of) in cc

-- the list of a sound table, by what `small` gives for its length
module _ (table : Records) (s : sound_table table.bytes.now ≡ true) {n : ℕ}
    (e : n ≡ min (get (store table.bytes.now) length_slot) small_limit) where
  length_read : n ≡ min (list_length (store table.bytes.now)) small_limit
  unfolding list_length
  length_read = e

  pub sound-listing : Listing table n
  sound-listing =
      let g = (sound_table-good table.bytes.now s).good in
      let short = list-short (store table.bytes.now) g.ascending g.sound in
      record {
        all = omega (arith, length_read, few table, table.count, short);
        short = omega (arith, length_read, table.count, short);
      }
