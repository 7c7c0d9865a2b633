-- Document 01's examples ("Both sides of each rule"), and those of document 02's requests, as statements: P1 to P11 are the list
-- `cases`, all others the list `computed`. Each list has one claim, that all of it is true: `P1-to-P11` and `computed-hold` of proofs/Examples.
use Rattle.std.specs.Prelude.{ℕ, zero, suc, ◌+◌, ◌*◌, ◌/◌, ◌%◌, ◌^◌, ◌-◌, ◌≡◌, List, [], ◌∷◌, ◌++◌, true, false, length, replicate}
use Rattle.rules.specs.Words.{key_bytes, address_bytes, Bytes, Every, AllBytes, num, bytes_of, word}
use Rattle.rules.specs.Table.{Store, get, ◌holds◌, put, puts, bytes, store}
use Rattle.rules.specs.KernelStorage.{address_slot, index_slot, count_slot, word_slot, length_slot, place_slot, kernel_address_slot, current_slot, entry_slot}
use Rattle.rules.specs.Capabilities.{Kind, call, register, delete, set_entry, write, number, Capability, covers, within, prefix_in_range}
use Rattle.rules.specs.Procedures.{list_length, key_at, index_of, current, entry_key}
use Rattle.rules.specs.Messages.{series, malformed}
use Rattle.rules.specs.Validation.{passes}
use Rattle.rules.specs.Answers.{no_address, no_value, fields, done, called, registered, Outcome}
use Rattle.rules.specs.Calls.{set_up, turn, system_call}

-- every statement of a list is true
abbrev pub AllTrue : List (Type 0) → Type 0
AllTrue [] = Unit {0}
AllTrue (A ∷ more) = A × AllTrue more

-- a statement about each of the three kinds that have a prefix
abbrev pub EachPrefixKind : (Kind → Type 0) → Type 0
EachPrefixKind statement = Every statement (call ∷ register ∷ delete ∷ [])

-- a statement about every list of n bytes that begins with the bytes `first`, whatever the others are
abbrev pub Beginning : (n : ℕ) → (first : Bytes) → (Bytes → Type 0) → Type 0
Beginning n first statement = (others : Bytes) → AllBytes others → length (first ++ others) ≡ n → statement (first ++ others)

-- about every procedure key that begins so, as "a0.." says
abbrev pub EveryKey : (first : Bytes) → (ℕ → Type 0) → Type 0
EveryKey first statement = Beginning key_bytes first (λ key. statement (num key))

-- about every prefix capability of s bits whose base key begins with the bytes b: "byte 0: prefix s ..; bytes 1 to 7 unread, stored
-- as sent; bytes 8 to 31: base key b". The unread bytes hold anything.
abbrev pub EveryCapability : (s : ℕ) → (b : Bytes) → (Capability → Type 0) → Type 0
EveryCapability s b statement = Beginning 8 (s ∷ []) (λ front. Beginning key_bytes b (λ base. statement (num (front ++ base) ∷ [])))

-- the word of a prefix capability of s bits: its first byte is s, its last 24 bytes are the base key
abbrev pub prefix_word : (s key : ℕ) → ℕ
prefix_word s key = s * 256 ^ 31 + key

-- a prefix capability of s bits, with this base key
abbrev pub prefix_of_key : (s key : ℕ) → Capability
prefix_of_key s key = prefix_word s key ∷ []

-- one whose base key begins with the bytes b, and is zero after them
abbrev pub prefix_capability : (s : ℕ) → (b : Bytes) → Capability
prefix_capability s b = prefix_of_key s (num (b ++ replicate (key_bytes - length b) 0x00))

-- a Write capability of base a and additional n
abbrev pub write_capability : (a n : ℕ) → Capability
write_capability a n = a ∷ n ∷ []

-- "a mask of 00 and 60": bit 0 of byte 0, and bit 0 of byte 12, as 60 hex is 12 times 8
abbrev pub mask_of_00_and_60 : Bytes
mask_of_00_and_60 = 0x01 ∷ replicate 11 0 ++ 0x01 ∷ replicate 19 0

-- words one after the other, each as its 32 bytes
abbrev pub words_in_bytes : List ℕ → Bytes
words_in_bytes [] = []
words_in_bytes (w ∷ ws) = word w ++ words_in_bytes ws

-- a requested capability in Register's series: "CapSize, CapType, then its words"
abbrev pub requested : Kind → Capability → List ℕ
requested kind c = (1 + length c) ∷ number kind ∷ c

-- a message: its type, then the words of its data. Each of the five below uses the first capability of its type.
abbrev pub message : Kind → (words : List ℕ) → Bytes
message kind words = number kind ∷ words_in_bytes words

abbrev pub call_message : (key : ℕ) → Bytes
call_message key = message call (0 ∷ key ∷ [])

-- Register of a key, with the address 33
abbrev pub register_message : (key : ℕ) → (requests : List ℕ) → Bytes
register_message key requests = message register (0 ∷ key ∷ 0x33 ∷ requests)

abbrev pub delete_message : (key : ℕ) → Bytes
delete_message key = message delete (0 ∷ key ∷ [])

abbrev pub set_entry_message : (key : ℕ) → Bytes
set_entry_message key = message set_entry (0 ∷ key ∷ [])

abbrev pub write_message : (address value : ℕ) → Bytes
write_message address value = message write (0 ∷ address ∷ value ∷ [])

-- three procedure keys; K2 and K3 differ in their last bit alone, K1 and K3 in the one before it
abbrev pub K1 : ℕ
K1 = 1

abbrev pub K2 : ℕ
K2 = 2

abbrev pub K3 : ℕ
K3 = 3

-- n bytes that are in no record form, as the host may lend them to a set-up
abbrev pub lent : (n : ℕ) → Bytes
lent n = replicate n 0xff

-- set-up of K1 on n bytes, with the address 11 and the kernel address 22; and the table that it leaves
abbrev pub setting_up : (n : ℕ) → Outcome
setting_up n = set_up (lent n) (bytes_of key_bytes K1) (bytes_of address_bytes 0x11) (bytes_of address_bytes 0x22)

abbrev pub set_up_table : (n : ℕ) → Bytes
set_up_table n = (setting_up n).table

-- a system call with the code 00
abbrev pub sending : (table message : Bytes) → Outcome
sending t m = system_call t m (0x00 ∷ []) mask_of_00_and_60

-- a table with K1 K2 K3, which has room for 20 records, and what it holds; then K2 is deleted
abbrev pub with_three : Bytes
with_three = (sending (sending (set_up_table 1280) (register_message K2 [])).table (register_message K3 [])).table

abbrev pub three : Store
three = store with_three

abbrev pub after_deletion : Store
after_deletion = store (sending with_three (delete_message K2)).table

-- count keys of the list, from place n on; all of them
abbrev pub keys_from : Store → (n count : ℕ) → List ℕ
keys_from s n zero = []
keys_from s n (suc count) = key_at s n ∷ keys_from s (suc n) count

abbrev pub keys_of : Store → List ℕ
keys_of s = keys_from s 1 (list_length s)

-- "s=8, b=a0..: covers a0.., not a1.."
abbrev pub P1 : Type 0
P1 =
    EachPrefixKind (λ kind. EveryCapability 8 (0xa0 ∷ []) (λ c. EveryKey (0xa0 ∷ []) (λ key. covers kind c key ≡ true)))
    × EachPrefixKind (λ kind. EveryCapability 8 (0xa0 ∷ []) (λ c. EveryKey (0xa1 ∷ []) (λ key. covers kind c key ≡ false)))

-- "s=9, b=a000..: covers a07f.., not a080.."
abbrev pub P2 : Type 0
P2 =
    EachPrefixKind (λ kind. EveryCapability 9 (0xa0 ∷ 0x00 ∷ []) (λ c. EveryKey (0xa0 ∷ 0x7f ∷ []) (λ key. covers kind c key ≡ true)))
    × EachPrefixKind (λ kind. EveryCapability 9 (0xa0 ∷ 0x00 ∷ []) (λ c. EveryKey (0xa0 ∷ 0x80 ∷ []) (λ key. covers kind c key ≡ false)))

-- "s=0 covers every key": whatever its word holds after byte 0
abbrev pub P3 : Type 0
P3 = EachPrefixKind (λ kind. EveryCapability 0 [] (λ c. EveryKey [] (λ key. covers kind c key ≡ true)))

-- "prefix 24 accepted, 25 malformed", amended by document 02, No. 2: "now 192 and 193"
abbrev pub P4 : Type 0
P4 =
    EachPrefixKind (λ kind. prefix_in_range kind (prefix_capability 192 []) ≡ true)
    × EachPrefixKind (λ kind. prefix_in_range kind (prefix_capability 193 []) ≡ false)
    × EachPrefixKind (λ kind. malformed (series (words_in_bytes (requested kind (prefix_capability 192 [])))) ≡ false)
    × EachPrefixKind (λ kind. malformed (series (words_in_bytes (requested kind (prefix_capability 193 [])))) ≡ true)

-- "(8,a0..) lies within (0,0), not the reverse". The reverse differs in its first bits already;
-- the last line is for the lengths alone: (0,a0..) does not lie within (8,a0..).
abbrev pub P5 : Type 0
P5 =
    EachPrefixKind (λ kind. within kind (prefix_capability 8 (0xa0 ∷ [])) (prefix_capability 0 []) ≡ true)
    × EachPrefixKind (λ kind. within kind (prefix_capability 0 []) (prefix_capability 8 (0xa0 ∷ [])) ≡ false)
    × EachPrefixKind (λ kind. within kind (prefix_capability 0 (0xa0 ∷ [])) (prefix_capability 8 (0xa0 ∷ [])) ≡ false)

-- "Write(8000 hex, 5) covers 8005, not 8006"
abbrev pub P6 : Type 0
P6 =
    (covers write (write_capability 0x8000 5) 0x8005 ≡ true)
    × (covers write (write_capability 0x8000 5) 0x8006 ≡ false)

-- "(82,3) within (80,5), (82,4) not (bases hex)"
abbrev pub P7 : Type 0
P7 =
    (within write (write_capability 0x82 3) (write_capability 0x80 5) ≡ true)
    × (within write (write_capability 0x82 4) (write_capability 0x80 5) ≡ false)

-- "(80 hex,10) within neither (80,5) nor (85,5)"
abbrev pub P8 : Type 0
P8 =
    (within write (write_capability 0x80 10) (write_capability 0x80 5) ≡ false)
    × (within write (write_capability 0x80 10) (write_capability 0x85 5) ≡ false)

-- "(2^256−1, 1) is not within (0, 2^256−1)"
abbrev pub P9 : Type 0
P9 = within write (write_capability (2 ^ 256 - 1) 1) (write_capability 0 (2 ^ 256 - 1)) ≡ false

-- "with a mask of 00 and 60: code 60 f4 00 passes, 60 passes, f4 and empty code do not"
abbrev pub P10 : Type 0
P10 =
    (passes mask_of_00_and_60 (0x60 ∷ 0xf4 ∷ 0x00 ∷ []) ≡ true)
    × (passes mask_of_00_and_60 (0x60 ∷ []) ≡ true)
    × (passes mask_of_00_and_60 (0xf4 ∷ []) ≡ false)
    × (passes mask_of_00_and_60 [] ≡ false)

-- "keys K1 K2 K3, K1 current and entry; delete K2: K1 K3, K3 has index 2"
abbrev pub P11 : Type 0
P11 =
    (keys_of three ≡ K1 ∷ K2 ∷ K3 ∷ [])
    × (current three ≡ K1)
    × (entry_key three ≡ K1)
    × (keys_of after_deletion ≡ K1 ∷ K3 ∷ [])
    × (list_length after_deletion ≡ 2)
    × (index_of after_deletion K3 ≡ 2)

-- "P1 to P11 are one list with a single proved claim about it"
unfoldable pub cases : List (Type 0)
cases = P1 ∷ P2 ∷ P3 ∷ P4 ∷ P5 ∷ P6 ∷ P7 ∷ P8 ∷ P9 ∷ P10 ∷ P11 ∷ []

-- the last lines of the key to the signs, on top of Words
abbrev pub BytesAreNumbers : Type 0
BytesAreNumbers =
    (num (0x01 ∷ 0x02 ∷ []) ≡ 258)
    × (bytes_of 2 258 ≡ 0x01 ∷ 0x02 ∷ [])
    × (num (0x01 ∷ 0x02 ∷ 0x03 ∷ []) / 256 ^ 2 ≡ num (0x01 ∷ []))
    × (num (0x01 ∷ 0x02 ∷ 0x03 ∷ []) % 256 ^ 2 ≡ num (0x02 ∷ 0x03 ∷ []))
    × (0xa7 / 2 ^ 4 ≡ 0x0a)

-- The records of a set-up. A word or a count that is zero has none.
abbrev pub first_records : (key address kernel_address : ℕ) → Store
first_records k a ka =
    address_slot k holds a
    ∷ index_slot k holds 1
    ∷ count_slot k (number call) holds 1
    ∷ count_slot k (number register) holds 1
    ∷ count_slot k (number delete) holds 1
    ∷ count_slot k (number set_entry) holds 1
    ∷ count_slot k (number write) holds 1
    ∷ word_slot k (number write) 1 1 holds (2 ^ 256 - 1)
    ∷ length_slot holds 1
    ∷ place_slot 1 holds k
    ∷ kernel_address_slot holds ka
    ∷ current_slot holds k
    ∷ entry_slot holds k
    ∷ []

-- "A refusal is flag 0 with these bytes, no other result, and a table equal byte for byte to the one lent."
pub record Refuses (code_bytes table : Bytes) (o : Outcome) : Type 0 where
  pub fields_are :
      fields o.answer ≡ record { flag = 0; code = code_bytes; tests = 0; address = no_address; payload = []; value = no_value }
  pub as_lent : o.table ≡ table

-- the address "fffffffe ff..ff", and the first of kernel storage, "ffffffff 00..00"
abbrev pub last_before_kernel_storage : ℕ
last_before_kernel_storage = num (0xff ∷ 0xff ∷ 0xff ∷ 0xfe ∷ replicate 28 0xff)

abbrev pub first_of_kernel_storage : ℕ
first_of_kernel_storage = num (0xff ∷ 0xff ∷ 0xff ∷ 0xff ∷ replicate 28 0x00)

-- two series of requested capabilities
abbrev pub write_then_set_entry : List ℕ
write_then_set_entry = requested write (write_capability 1 1) ++ requested set_entry []

abbrev pub set_entry_then_too_much : List ℕ
set_entry_then_too_much = requested set_entry [] ++ requested write (write_capability (2 ^ 256 - 1) 1)

-- "Set-up needs 13 records (832 bytes)"; "It overwrites the table whatever it held."
abbrev pub SetUpHas13Records : Type 0
SetUpHas13Records =
    ((setting_up 832).answer ≡ done)
    × (store (set_up_table 832) ≡ first_records K1 0x11 0x22)
    × (length (store (set_up_table 832)) ≡ 13)

-- "Set-up on 768 bytes answers 66 e7, on 831 66 ef."
abbrev pub SetUpNeedsItsBytes : Type 0
SetUpNeedsItsBytes =
    Refuses (0x66 ∷ 0xe7 ∷ []) (lent 768) (setting_up 768)
    × Refuses (0x66 ∷ 0xef ∷ []) (lent 831) (setting_up 831)

-- "With set-up capabilities, a write to fffffffe ff..ff succeeds, to ffffffff 00..00 answers 33."
abbrev pub WriteSparesKernelStorage : Type 0
WriteSparesKernelStorage =
    ((sending (set_up_table 896) (write_message last_before_kernel_storage 5)).answer ≡ done)
    × (get (store (sending (set_up_table 896) (write_message last_before_kernel_storage 5)).table) last_before_kernel_storage ≡ 5)
    × Refuses (0x33 ∷ []) (set_up_table 896) (sending (set_up_table 896) (write_message first_of_kernel_storage 5))

-- "Registering Write(1,1) and Set Entry reports 2 tests."
abbrev pub RegisterReportsTests : Type 0
RegisterReportsTests = (sending (set_up_table 1280) (register_message K2 write_then_set_entry)).answer ≡ registered 2

-- 33: "a requested capability within none held". The request before it lies within one held, and still nothing is stored.
-- The second line registers the current key again: what is requested is not yet held when it is tested, so 33 comes before 66 e1.
abbrev pub RequestsAreTestedFirst : Type 0
RequestsAreTestedFirst =
    Refuses (0x33 ∷ []) (set_up_table 1280) (sending (set_up_table 1280) (register_message K2 set_entry_then_too_much))
    × Refuses (0x33 ∷ []) (set_up_table 1280) (sending (set_up_table 1280) (register_message K1 set_entry_then_too_much))

-- "Register e4, 33 (index, cover), e9, e5": code that does not pass is found before a series that is cut
abbrev pub CodeIsJudgedBeforeSeries : Type 0
CodeIsJudgedBeforeSeries =
    Refuses (0x66 ∷ 0xe9 ∷ []) (set_up_table 832) (system_call (set_up_table 832) (register_message K2 (1 ∷ [])) [] mask_of_00_and_60)
    × Refuses (0x66 ∷ 0xe5 ∷ []) (set_up_table 832) (sending (set_up_table 832) (register_message K2 (1 ∷ [])))

-- a table in which K1 is listed twice, and its index names its second place: "an index equal to its place" is broken
abbrev pub listed_twice : Bytes
listed_twice =
    bytes 960 (puts (store (set_up_table 832)) (place_slot 2 holds K1 ∷ length_slot holds 2 ∷ index_slot K1 holds 2 ∷ []))

abbrev pub KeyStandsOnce : Type 0
KeyStandsOnce = Refuses (0x66 ∷ 0xef ∷ []) listed_twice (sending listed_twice (0 ∷ []))

-- 66 e1: "key already listed"
abbrev pub KeyIsRegisteredOnce : Type 0
KeyIsRegisteredOnce = Refuses (0x66 ∷ 0xe1 ∷ []) with_three (sending with_three (register_message K2 []))

-- "Types 8 and 9 answer as unknown, in messages and in capabilities."
abbrev pub Types8And9AreUnknown : Type 0
Types8And9AreUnknown =
    Refuses (0xaa ∷ []) (set_up_table 832) (sending (set_up_table 832) (8 ∷ []))
    × Refuses (0xaa ∷ []) (set_up_table 832) (sending (set_up_table 832) (9 ∷ []))
    × (malformed (series (words_in_bytes (1 ∷ 8 ∷ []))) ≡ true)
    × (malformed (series (words_in_bytes (1 ∷ 9 ∷ []))) ≡ true)

-- a message and one byte more
abbrev pub with_one_more : Bytes → Bytes
with_one_more m = m ++ (0 ∷ [])

-- a word that is no key: 1 stands in its first 8 bytes
abbrev pub no_key : ℕ
no_key = 256 ^ key_bytes

-- 66 eb: 64 data bytes and 65 of Delete and Set Entry, 96 and 97 of Write, `00` and `0000`
abbrev pub DataEndsWithItsFormat : Type 0
DataEndsWithItsFormat =
    ((sending with_three (delete_message K2)).answer ≡ done)
    × Refuses (0x66 ∷ 0xeb ∷ []) with_three (sending with_three (with_one_more (delete_message K2)))
    × ((sending (set_up_table 832) (set_entry_message K1)).answer ≡ done)
    × Refuses (0x66 ∷ 0xeb ∷ []) (set_up_table 832) (sending (set_up_table 832) (with_one_more (set_entry_message K1)))
    × ((sending (set_up_table 896) (write_message last_before_kernel_storage 5)).answer ≡ done)
    × Refuses (0x66 ∷ 0xeb ∷ []) (set_up_table 896) (sending (set_up_table 896) (with_one_more (write_message last_before_kernel_storage 5)))
    × ((sending (set_up_table 832) (0x00 ∷ [])).answer ≡ done)
    × Refuses (0x66 ∷ 0xeb ∷ []) (set_up_table 832) (sending (set_up_table 832) (0x00 ∷ 0x00 ∷ []))

-- "directly after short data and before 66 e6": of a word that is no key, 65 data bytes answer 66 eb, and 64 answer 66 e6
abbrev pub OverlongIsJudgedBeforeKeys : Type 0
OverlongIsJudgedBeforeKeys =
    Refuses (0x66 ∷ 0xeb ∷ []) (set_up_table 832) (sending (set_up_table 832) (with_one_more (delete_message no_key)))
    × Refuses (0x66 ∷ 0xe6 ∷ []) (set_up_table 832) (sending (set_up_table 832) (delete_message no_key))

-- "Call and Register stay open-ended": one byte more is Call's payload, and in Register a series that is cut
abbrev pub CallAndRegisterStayOpenEnded : Type 0
CallAndRegisterStayOpenEnded =
    ((sending (set_up_table 832) (with_one_more (call_message K1))).answer ≡ called (bytes_of address_bytes 0x11) (0 ∷ []))
    × Refuses (0x66 ∷ 0xe5 ∷ []) (set_up_table 832) (sending (set_up_table 832) (with_one_more (register_message K2 [])))

-- A prefix of 191 bits leaves the last bit of the key open, one of 192 bits leaves none. The last three lines are of lying within.
abbrev pub PrefixReachesTheLastBit : Type 0
PrefixReachesTheLastBit =
    EachPrefixKind (λ kind. covers kind (prefix_of_key 191 K3) K3 ≡ true)
    × EachPrefixKind (λ kind. covers kind (prefix_of_key 191 K3) K2 ≡ true)
    × EachPrefixKind (λ kind. covers kind (prefix_of_key 191 K3) K1 ≡ false)
    × EachPrefixKind (λ kind. covers kind (prefix_of_key 192 K3) K3 ≡ true)
    × EachPrefixKind (λ kind. covers kind (prefix_of_key 192 K3) K2 ≡ false)
    × EachPrefixKind (λ kind. within kind (prefix_of_key 192 K3) (prefix_of_key 191 K2) ≡ true)
    × EachPrefixKind (λ kind. within kind (prefix_of_key 192 K3) (prefix_of_key 192 K2) ≡ false)
    × EachPrefixKind (λ kind. within kind (prefix_of_key 191 K3) (prefix_of_key 192 K3) ≡ false)

-- K1 registers K2, with a right to delete the keys that share the first s bits of K3
abbrev pub registering_ward : (s : ℕ) → Outcome
registering_ward s = sending (set_up_table 1344) (register_message K2 (requested delete (prefix_of_key s K3)))

-- the table of a set-up, except that K1's capability of this kind is for the keys that share the first s bits of K3
abbrev pub table_with_prefix : Kind → (s : ℕ) → Bytes
table_with_prefix kind s = bytes 896 (put (store (set_up_table 832)) (word_slot K1 (number kind) 1 0) (prefix_word s K3))

-- "66 e5 and 66 ef use the new range": 191 and 192 are registered and sound, 193 is malformed and unsound
abbrev pub PrefixesEndAt192 : Type 0
PrefixesEndAt192 =
    ((registering_ward 191).answer ≡ registered 1)
    × ((registering_ward 192).answer ≡ registered 1)
    × Refuses (0x66 ∷ 0xe5 ∷ []) (set_up_table 1344) (registering_ward 193)
    × ((sending (table_with_prefix delete 191) (0x00 ∷ [])).answer ≡ done)
    × ((sending (table_with_prefix delete 192) (0x00 ∷ [])).answer ≡ done)
    × Refuses (0x66 ∷ 0xef ∷ []) (table_with_prefix delete 193) (sending (table_with_prefix delete 193) (0x00 ∷ []))

-- K1 K2 K3, where K2 has that right and is the current procedure
abbrev pub ward_running : (s : ℕ) → Bytes
ward_running s = (turn (sending (registering_ward s).table (register_message K3 [])).table (bytes_of key_bytes K2)).table

-- "no ward can hold a right to close one referral": now one can. With 192 bits K2 deletes K3, and neither K1 nor itself, whose key
-- differs from K3 in the last bit alone. With 191 bits its own key is covered too, and refused only as the current one (66 e3);
-- K1 is still not covered (33).
abbrev pub WardClosesOneReferral : Type 0
WardClosesOneReferral =
    ((sending (ward_running 192) (delete_message K3)).answer ≡ done)
    × (keys_of (store (sending (ward_running 192) (delete_message K3)).table) ≡ K1 ∷ K2 ∷ [])
    × Refuses (0x33 ∷ []) (ward_running 192) (sending (ward_running 192) (delete_message K1))
    × Refuses (0x33 ∷ []) (ward_running 192) (sending (ward_running 192) (delete_message K2))
    × Refuses (0x33 ∷ []) (ward_running 191) (sending (ward_running 191) (delete_message K1))
    × Refuses (0x66 ∷ 0xe3 ∷ []) (ward_running 191) (sending (ward_running 191) (delete_message K2))

-- the key's example, the examples of 01 that are not marked P, then those of document 02; what the program prints is in the crate
-- examples
unfoldable pub computed : List (Type 0)
computed =
    BytesAreNumbers
    ∷ SetUpHas13Records
    ∷ SetUpNeedsItsBytes
    ∷ WriteSparesKernelStorage
    ∷ RegisterReportsTests
    ∷ RequestsAreTestedFirst
    ∷ CodeIsJudgedBeforeSeries
    ∷ KeyStandsOnce
    ∷ KeyIsRegisteredOnce
    ∷ Types8And9AreUnknown
    ∷ DataEndsWithItsFormat
    ∷ OverlongIsJudgedBeforeKeys
    ∷ CallAndRegisterStayOpenEnded
    ∷ PrefixReachesTheLastBit
    ∷ PrefixesEndAt192
    ∷ WardClosesOneReferral
    ∷ []
