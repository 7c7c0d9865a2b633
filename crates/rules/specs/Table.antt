-- The storage table. What the ledger holds is a store: records of key and value, ascending by key, none with value zero.
-- The lent table is the store's bytes, then zeros: `store t` reads a table, `bytes n s` writes one of n bytes.
use Rattle.std.specs.Prelude.{ℕ, zero, suc, ◌*◌, ◌/◌, ◌%◌, ◌-◌, ◌^◌, ◌≤◌, ◌<◌, ◌≡◌, List, [], ◌∷◌, ◌++◌, Bool, true, false, ◌&&◌, eqb, leb, ltb, length, take, drop, replicate}
use Rattle.rules.specs.Words.{word_bytes, Bytes, Every, num, word, same_bytes}

-- "records of 64 bytes: a 32-byte key, then a 32-byte value"
abbrev pub record_size : ℕ
record_size = 64

-- "at most 65,536 bytes (1,024 records)"
abbrev pub greatest_table : ℕ
greatest_table = 65536

pub record Record : Type 0 where
  pub key : ℕ
  pub value : ℕ

infix 68 ◌holds◌
abbrev pub ◌holds◌ : ℕ → ℕ → Record
k holds v = record { key = k; value = v }

abbrev pub Store : Type 0
Store = List Record

-- "A key not present has value zero, as on the ledger"
unfoldable pub get : Store → ℕ → ℕ
get [] k = 0
get (r ∷ s) k = elim (eqb k r.key) [ true ↦ r.value | false ↦ get s k ]

-- the record of a key and a value, before the records that follow; there is none for the value zero
unfoldable pub record_before : ℕ → ℕ → Store → Store
record_before k zero s = s
record_before k (suc v) s = k holds (suc v) ∷ s

-- "so storing zero removes a record and its room is used again"
unfoldable pub put : Store → ℕ → ℕ → Store
put [] k v = record_before k v []
put (r ∷ s) k v =
    elim (ltb r.key k) [
      | true ↦ r ∷ put s k v
      | false ↦ elim (eqb k r.key) [ true ↦ record_before k v s | false ↦ record_before k v (r ∷ s) ]
    ]

-- several stores, the first of the list first
unfoldable pub puts : Store → List Record → Store
puts s [] = s
puts s (r ∷ rs) = puts (put s r.key r.value) rs

-- the records' bytes, and a table of n bytes: the records first, zeros after them
unfoldable pub record_bytes : Store → Bytes
record_bytes [] = []
record_bytes (r ∷ s) = word r.key ++ (word r.value ++ record_bytes s)

unfoldable pub bytes : ℕ → Store → Bytes
bytes n s = record_bytes s ++ replicate (n - record_size * length s) 0

-- the number of records that a table has room for
unfoldable pub room : Bytes → ℕ
room t = length t / record_size

-- the occupied records among the first n: those before the first whose value is zero
unfoldable pub occupied : ℕ → Bytes → Store
occupied zero t = []
occupied (suc n) t =
    elim (num (take word_bytes (drop word_bytes t))) [
      | zero ↦ []
      | suc v ↦ num (take word_bytes t) holds (suc v) ∷ occupied n (drop record_size t)
    ]

unfoldable pub store : Bytes → Store
store t = occupied (room t) t

-- The record form, as the document says it. `Ascending low s`: each key of s is at least low and above the key before it,
-- and no value is zero.
abbrev pub Ascending : ℕ → Store → Type 0
Ascending low [] = Unit {0}
Ascending low (r ∷ s) = (low ≤ r.key) × (1 ≤ r.value) × Ascending (suc r.key) s

-- every key and value is a word
abbrev pub Sized : Store → Type 0
Sized s = Every (λ (r : Record). (r.key < 256 ^ word_bytes) × (r.value < 256 ^ word_bytes)) s

pub record RecordForm (t : Bytes) : Type 0 where
  -- "Its length is a multiple of 64, at most 65,536 bytes"
  pub multiple : length t % record_size ≡ 0
  pub not_longer : length t ≤ greatest_table
  -- "Occupied records come first, strictly ascending by key, none with a value of zero; every byte after them is zero."
  pub records : Store
  pub words : Sized records
  pub ascends : Ascending 0 records
  pub fits : length records ≤ room t
  pub layout : t ≡ bytes (length t) records

-- The record form as a test. `TableDecides` of the laws shows that test and sentence say the same.
unfoldable pub length_fits : Bytes → Bool
length_fits t = eqb (length t % record_size) 0 && leb (length t) greatest_table

unfoldable pub ascending_above : ℕ → Store → Bool
ascending_above low [] = true
ascending_above low (r ∷ s) = leb low r.key && ltb 0 r.value && ascending_above (suc r.key) s

unfoldable pub ascending : Store → Bool
ascending s = ascending_above 0 s

unfoldable pub record_form : Bytes → Bool
record_form t = length_fits t && ascending (store t) && same_bytes t (bytes (length t) (store t))
