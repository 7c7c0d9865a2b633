-- When a table is sound: the document's sentence as a record of facts, then the test that the calls use.
-- `SoundDecides` and `TableDecides` of the laws show that the two say the same.
use Rattle.std.specs.Prelude.{ℕ, zero, suc, ◌≤◌, ◌<◌, ◌^◌, ◌≡◌, ◌≢◌, List, [], ◌∷◌, Bool, true, false, ◌&&◌, ◌||◌, not, eqb, leb, ltb}
use Rattle.rules.specs.Words.{key_bytes, address_bytes, Bytes}
use Rattle.rules.specs.Table.{Store, Record, get, store, record_form, RecordForm}
use Rattle.rules.specs.KernelStorage.{in_kernel_storage, middle_of, end_second, end_third, address_slot, index_slot, count_slot, word_slot, length_slot, place_slot, kernel_address_slot, current_slot, entry_slot}
use Rattle.rules.specs.Capabilities.{Kind, kinds, number, word_count, greatest_prefix, prefix_up_to, prefix_in_range}
use Rattle.rules.specs.Procedures.{list_length, key_at, address_of, index_of, count_of, kernel_address, current, entry_key, capability, held, InList, Listed, listed}

-- "each count is at most 255"
abbrev pub greatest_count : ℕ
greatest_count = 255

-- a "non-zero 24-byte" key, a "non-zero 20-byte" address: "the unused leading bytes are zero"
pub record IsKey (p : ℕ) : Type 0 where
  pub non_zero : 1 ≤ p
  pub fits : p < 256 ^ key_bytes

pub record IsAddress (a : ℕ) : Type 0 where
  pub non_zero : 1 ≤ a
  pub fits : a < 256 ^ address_bytes

-- The keys of kernel storage that a sound store may have: the rows of the document's table.
pub data Belongs (s : Store) : ℕ → Type 0 where
  address : {p : ℕ} → Listed s p → Belongs s (address_slot p)
  index : {p : ℕ} → Listed s p → Belongs s (index_slot p)
  count : {p : ℕ} → Listed s p → (kind : Kind) → Belongs s (count_slot p (number kind))
  capability_word : {p : ℕ} → Listed s p → (kind : Kind) (i k : ℕ) → 1 ≤ i → i ≤ count_of s p kind → k < word_count kind
      → Belongs s (word_slot p (number kind) i k)
  list_length_here : Belongs s length_slot
  place : (n : ℕ) → InList s n → Belongs s (place_slot n)
  kernel_address_here : Belongs s kernel_address_slot
  current_here : Belongs s current_slot
  entry_here : Belongs s entry_slot

-- What soundness says of the records that a table holds, where prefixes run from 0 to `greatest`.
pub record SoundUpTo (greatest : ℕ) (s : Store) : Type 0 where
  -- "the length N is at least 1"
  pub at_least_one : 1 ≤ list_length s
  -- "list places 1 to N hold distinct non-zero 24-byte keys"
  pub keys : (n : ℕ) → InList s n → IsKey (key_at s n)
  pub distinct : (m n : ℕ) → InList s m → InList s n → key_at s m ≡ key_at s n → m ≡ n
  -- "each listed key has a non-zero 20-byte address, and an index equal to its place"
  pub addresses : (n : ℕ) → InList s n → IsAddress (address_of s (key_at s n))
  pub indexes : (n : ℕ) → InList s n → index_of s (key_at s n) ≡ n
  -- "each count is at most 255"
  pub counts : (n : ℕ) → InList s n → (kind : Kind) → count_of s (key_at s n) kind ≤ greatest_count
  -- "current and entry keys are listed"
  pub current_listed : Listed s (current s)
  pub entry_listed : Listed s (entry_key s)
  -- "the kernel address is non-zero and 20 bytes"
  pub kernel_address_fits : IsAddress (kernel_address s)
  -- "every prefix is in range"
  pub prefixes : (n : ℕ) → InList s n → (kind : Kind) (i : ℕ) → 1 ≤ i → i ≤ count_of s (key_at s n) kind
      → prefix_up_to greatest kind (capability s (key_at s n) kind i) ≡ true
  -- "and no other key of kernel storage is present"
  pub nothing_else : (k : ℕ) → in_kernel_storage k ≡ true → get s k ≢ 0 → Belongs s k

-- "A table is sound when it has the record form above, and:" what `SoundUpTo` says of its store
pub record SoundTableUpTo (greatest : ℕ) (t : Bytes) : Type 0 where
  pub form : RecordForm t
  pub sound : SoundUpTo greatest (store t)

-- The soundness in force has the range in force; `whole_keys` sets it beside the soundness of a shorter range.
abbrev pub Sound : Store → Type 0
Sound = SoundUpTo greatest_prefix

abbrev pub SoundTable : Bytes → Type 0
SoundTable = SoundTableUpTo greatest_prefix

-- The test. First: every one of a list passes, some one does, each of the places n down to 1 does.
unfoldable pub all_of : {A : Type 0} → (A → Bool) → List A → Bool
all_of f [] = true
all_of f (x ∷ xs) = elim (f x) [ true ↦ all_of f xs | false ↦ false ]

unfoldable pub any_of : {A : Type 0} → (A → Bool) → List A → Bool
any_of f [] = false
any_of f (x ∷ xs) = elim (f x) [ true ↦ true | false ↦ any_of f xs ]

unfoldable pub all_places : (ℕ → Bool) → ℕ → Bool
all_places f zero = true
all_places f (suc n) = elim (f (suc n)) [ true ↦ all_places f n | false ↦ false ]

unfoldable pub is_key : ℕ → Bool
is_key p = leb 1 p && ltb p (256 ^ key_bytes)

unfoldable pub is_address : ℕ → Bool
is_address a = leb 1 a && ltb a (256 ^ address_bytes)

module _ (s : Store) where
  unfoldable pub kind_sound : ℕ → Kind → Bool
  kind_sound p kind = leb (count_of s p kind) greatest_count && all_of (prefix_in_range kind) (held s p kind)

  -- one place of the list. That keys are distinct follows: each has one index, and it is its place.
  unfoldable pub place_sound : ℕ → Bool
  place_sound n =
      is_key (key_at s n)
      && is_address (address_of s (key_at s n))
      && eqb (index_of s (key_at s n)) n
      && all_of (kind_sound (key_at s n)) kinds

  -- k is a word's slot of the procedure p, with i and the word's number read from its own last two bytes
  unfoldable pub word_belongs : (p k : ℕ) → Kind → Bool
  word_belongs p k kind =
      eqb k (word_slot p (number kind) (end_second k) (end_third k))
      && leb 1 (end_second k)
      && leb (end_second k) (count_of s p kind)
      && ltb (end_third k) (word_count kind)

  unfoldable pub kind_belongs : (p k : ℕ) → Kind → Bool
  kind_belongs p k kind = eqb k (count_slot p (number kind)) || word_belongs p k kind

  unfoldable pub procedure_belongs : (p k : ℕ) → Bool
  procedure_belongs p k = eqb k (address_slot p) || eqb k (index_slot p) || any_of (kind_belongs p k) kinds

  -- k is a slot of a listed procedure, whose key is k's own middle
  unfoldable pub of_listed_procedure : (k : ℕ) → Bool
  of_listed_procedure k = listed s (middle_of k) && procedure_belongs (middle_of k) k

  unfoldable pub place_belongs : (k : ℕ) → Bool
  place_belongs k = eqb k (place_slot (middle_of k)) && leb 1 (middle_of k) && leb (middle_of k) (list_length s)

  unfoldable pub fixed_belongs : (k : ℕ) → Bool
  fixed_belongs k = eqb k length_slot || eqb k kernel_address_slot || eqb k current_slot || eqb k entry_slot

  unfoldable pub belongs : (k : ℕ) → Bool
  belongs k = fixed_belongs k || place_belongs k || of_listed_procedure k

  unfoldable pub record_belongs : Record → Bool
  record_belongs r = not (in_kernel_storage r.key) || belongs r.key

  unfoldable pub sound : Bool
  sound =
      leb 1 (list_length s)
      && all_places place_sound (list_length s)
      && listed s (current s)
      && listed s (entry_key s)
      && is_address (kernel_address s)
      && all_of record_belongs s

unfoldable pub sound_table : Bytes → Bool
sound_table t = record_form t && sound (store t)
