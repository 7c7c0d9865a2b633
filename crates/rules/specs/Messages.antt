-- Messages: the type, the fields of each, and Register's series of capabilities.
use Rattle.std.specs.Prelude.{ℕ, zero, suc, ◌+◌, ◌/◌, ◌%◌, ◌^◌, List, [], ◌∷◌, Bool, true, false, not, ◌&&◌, ◌||◌, eqb, leb, ltb, length, take, drop, get_or}
use Rattle.std.proofs.Math.Option.{Option, none, some}
use Rattle.rules.specs.Words.{key_bytes, address_bytes, word_bytes, Bytes, word_at, words}
use Rattle.rules.specs.Capabilities.{Kind, call, register, delete, set_entry, write, kind_of, number, word_count, Capability, prefix_in_range}

-- 66 ea: "message above 65,536 bytes"
abbrev pub greatest_message : ℕ
greatest_message = 65536

-- "Byte 0 is the type; data follows at once (offset "0x8" in Table 4 is in bits)." (Of an empty message 0 is read; it is refused before its type is judged.)
unfoldable pub type_of : Bytes → ℕ
type_of m = get_or m 0 0

unfoldable pub data_of : Bytes → Bytes
data_of m = drop 1 m

-- what a message's type names: "type not 0, 3, 4, 5, 6, 7" is unknown, and 0 is Null
pub data Named : Type 0 where
  null unknown : Named
  of_kind : Kind → Named

abbrev pub null_number : ℕ
null_number = 0

unfoldable pub kind_or_unknown : Option Kind → Named
kind_or_unknown none = unknown
kind_or_unknown (some kind) = of_kind kind

unfoldable pub named : ℕ → Named
named type = elim (eqb type null_number) [ true ↦ null | false ↦ kind_or_unknown (kind_of type) ]

-- where Call's payload begins, and where Register's capabilities do
abbrev pub payload_at : ℕ
payload_at = 64

abbrev pub series_at : ℕ
series_at = 96

-- "Set Entry, Delete: index, key. 64 bytes."; "Write: index, address, value. 96 bytes.";
-- "Call: index, key, 64 bytes at least."; "Register: index, key, address, 96 bytes, then capabilities to the end."
unfoldable pub minimum : Kind → ℕ
minimum call = payload_at
minimum register = series_at
minimum delete = 64
minimum set_entry = 64
minimum write = 96

-- 66 eb, of document 02, No. 1: "Null, Set Entry, Delete and Write now refuse data beyond their format; Call and Register stay
-- open-ended. This amends 01's sentence on longer data" ("Longer data is ignored for Null, Set Entry, Delete and Write."). The format
-- of a type that is not open-ended is its minimum.
unfoldable pub open_ended : Kind → Bool
open_ended call = true
open_ended register = true
open_ended delete = false
open_ended set_entry = false
open_ended write = false

unfoldable pub overlong : Kind → Bytes → Bool
overlong kind d = not (open_ended kind) && ltb (minimum kind) (length d)

unfoldable pub index_word : Bytes → ℕ
index_word d = word_at d 0

unfoldable pub key_word : Bytes → ℕ
key_word d = word_at d 32

-- Register's
unfoldable pub address_word : Bytes → ℕ
address_word d = word_at d 64

-- Write's
unfoldable pub write_address : Bytes → ℕ
write_address d = word_at d 32

unfoldable pub write_value : Bytes → ℕ
write_value d = word_at d 64

-- "the payload, which is the caller's own message from data byte 64 on, possibly empty"
unfoldable pub payload_of : Bytes → Bytes
payload_of d = drop payload_at d

-- 66 e6: "key word with a non-zero byte in its first 8; Register's address word with one in its first 12":
-- as a number, such a word needs more than 24 bytes, or more than 20
unfoldable pub key_too_long : Bytes → Bool
key_too_long d = leb (256 ^ key_bytes) (key_word d)

unfoldable pub address_too_long : Bytes → Bool
address_too_long d = leb (256 ^ address_bytes) (address_word d)

unfoldable pub leading_bytes : Kind → Bytes → Bool
leading_bytes call d = key_too_long d
leading_bytes register d = key_too_long d || address_too_long d
leading_bytes delete d = key_too_long d
leading_bytes set_entry d = key_too_long d
leading_bytes write d = false

-- Register's series. "Each is CapSize, CapType, then its words. CapSize is 1 + the number of words, as Table 11 puts the final word
-- at offset CapSize."
pub record Request : Type 0 where
  pub kind : Kind
  pub capability : Capability

-- the request of a kind whose CapSize is `size` and whose words stand first in ws; none if it is malformed:
-- "wrong size, type or prefix, .. or a cut end". (A leading byte that is not zero makes CapSize or CapType a wrong number.)
unfoldable pub request_of : Kind → (size : ℕ) → (ws : List ℕ) → Option Request
request_of kind size ws =
    elim (eqb size (1 + word_count kind) && leb (word_count kind) (length ws) && prefix_in_range kind (take (word_count kind) ws)) [
      | true ↦ some (record { kind = kind; capability = take (word_count kind) ws })
      | false ↦ none
    ]

unfoldable pub request_at : (size : ℕ) → (ws : List ℕ) → Option Request
request_at size [] = none
request_at size (type ∷ ws) = elim (kind_of type) [ none ↦ none | some kind ↦ request_of kind size ws ]

unfoldable pub add_request : Request → Option (List Request) → Option (List Request)
add_request r none = none
add_request r (some rs) = some (r ∷ rs)

-- the requests of a list of words, of which the first `skip` still belong to the request before:
-- the words after a CapSize word are as many as it says
unfoldable pub series_from : (skip : ℕ) → List ℕ → Option (List Request)
series_from skip [] = some []
series_from zero (size ∷ ws) = elim (request_at size ws) [ none ↦ none | some r ↦ add_request r (series_from size ws) ]
series_from (suc n) (w ∷ ws) = series_from n ws

-- none if the bytes are not whole words, or a request is malformed
unfoldable pub series : Bytes → Option (List Request)
series bs = elim (eqb (length bs % word_bytes) 0) [ true ↦ series_from 0 (words (length bs / word_bytes) bs) | false ↦ none ]

-- the series of Register's data
unfoldable pub series_of : Bytes → Option (List Request)
series_of d = series (drop series_at d)

unfoldable pub malformed : Option (List Request) → Bool
malformed none = true
malformed (some rs) = false

unfoldable pub or_empty : Option (List Request) → List Request
or_empty none = []
or_empty (some rs) = rs

-- the requested capabilities
unfoldable pub requests : Bytes → List Request
requests d = or_empty (series_of d)

-- those of a type, in the order requested
unfoldable pub same_kind : Kind → Kind → Bool
same_kind a b = eqb (number a) (number b)

unfoldable pub requested_of : Kind → List Request → List Capability
requested_of kind [] = []
requested_of kind (r ∷ rs) = elim (same_kind kind r.kind) [ true ↦ r.capability ∷ requested_of kind rs | false ↦ requested_of kind rs ]
