-- The calls. "Built: set-up, Turn (the host names the running procedure), Look (read one slot), and the system calls Null, Call,
-- Register, Delete, Set Entry and Write, with code validation at registration." Each is its printed row of checks, a list with a
-- name, and then its effect. "Not built: running EVM code, gas, Log (8) and Gas Send (9)."
use Rattle.std.specs.Prelude.{ℕ, suc, ◌+◌, ◌/◌, ◌^◌, ◌-◌, List, [], ◌∷◌, ◌++◌, Bool, true, false, not, eqb, leb, ltb, length}
use Rattle.rules.specs.Words.{key_bytes, address_bytes, word_bytes, Bytes, num, bytes_of, word}
use Rattle.rules.specs.Table.{Store, Record, ◌holds◌, get, put, puts, store, room, length_fits}
use Rattle.rules.specs.KernelStorage.{in_kernel_storage, address_slot, index_slot, count_slot, word_slot, length_slot, place_slot, kernel_address_slot, current_slot, entry_slot}
use Rattle.rules.specs.Capabilities.{Kind, call, register, delete, set_entry, write, kinds, number, Capability, covers, within}
use Rattle.rules.specs.Procedures.{list_length, key_at, address_of, index_of, count_of, current, entry_key, capability, held, listed}
use Rattle.rules.specs.Sound.{greatest_count, sound_table, all_of, any_of}
use Rattle.rules.specs.Messages.{greatest_message, type_of, data_of, Named, null, unknown, of_kind, named, minimum, overlong, index_word, key_word, address_word, write_address, write_value, payload_of, leading_bytes, Request, series_of, malformed, requests, requested_of}
use Rattle.rules.specs.Validation.{passes}
use Rattle.rules.specs.Answers.{ed, ef, e0, ea, aa, eb, e6, e4, x33, e9, e5, x77, e1, e2, e3, x6633, e8, e7, done, called, registered, looked, Result, answer, change, Check, ◌⇒◌, ◌then◌, Outcome, outcome}

-- 66 ed: "a key, address, slot key or mask of the wrong number of bytes"
unfoldable pub wrong_bytes : ℕ → Bytes → Bool
wrong_bytes n bs = not (eqb (length bs) n)

unfoldable pub is_zero : ℕ → Bool
is_zero x = eqb x 0

-- 66 e7: "the table afterwards would need more records than it has room for"
unfoldable pub no_room : (rooms : ℕ) → Store → Bool
no_room rooms s = ltb rooms (length s)

-- 66 e8: "list length is 16,777,215"
abbrev pub greatest_list : ℕ
greatest_list = 16777215

-- The effect of Register: "appends the key, raises the length and stores the address, the index, the counts,
-- and each type's capabilities in the order requested".
-- a capability's words, from word k on; a type's capabilities, from the i-th on; a count and the capabilities for each type
unfoldable pub word_records : (p : ℕ) → Kind → (i k : ℕ) → Capability → List Record
word_records p kind i k [] = []
word_records p kind i k (w ∷ ws) = word_slot p (number kind) i k holds w ∷ word_records p kind i (suc k) ws

unfoldable pub capability_records : (p : ℕ) → Kind → (i : ℕ) → List Capability → List Record
capability_records p kind i [] = []
capability_records p kind i (c ∷ cs) = word_records p kind i 0 c ++ capability_records p kind (suc i) cs

unfoldable pub kind_records : (p : ℕ) → List Request → List Kind → List Record
kind_records p rs [] = []
kind_records p rs (kind ∷ more) =
    count_slot p (number kind) holds length (requested_of kind rs)
    ∷ (capability_records p kind 1 (requested_of kind rs) ++ kind_records p rs more)

unfoldable pub after_register : Store → (key address : ℕ) → List Request → Store
after_register s p a rs =
    puts s (
    place_slot (suc (list_length s)) holds p
    ∷ length_slot holds (suc (list_length s))
    ∷ address_slot p holds a
    ∷ index_slot p holds (suc (list_length s))
    ∷ kind_records p rs kinds)

-- Set-up: "one procedure, current and entry, holding Call(0,0), Register(0,0), Delete(0,0), Set Entry and Write(0, 2^256−1)",
-- registered in a store that holds only the kernel address, the current and the entry key:
-- "It overwrites the table whatever it held."
unfoldable pub first_capabilities : List Request
first_capabilities =
    record { kind = call; capability = 0 ∷ [] }
    ∷ record { kind = register; capability = 0 ∷ [] }
    ∷ record { kind = delete; capability = 0 ∷ [] }
    ∷ record { kind = set_entry; capability = [] }
    ∷ record { kind = write; capability = 0 ∷ (2 ^ 256 - 1) ∷ [] }
    ∷ []

unfoldable pub fixed_records : (key kernel_address : ℕ) → Store
fixed_records k ka = puts [] (kernel_address_slot holds ka ∷ current_slot holds k ∷ entry_slot holds k ∷ [])

unfoldable pub fresh : (key address kernel_address : ℕ) → Store
fresh k a ka = after_register (fixed_records k ka) k a first_capabilities

-- "Set-up: ef, e4, e7." Of a set-up, 66 ef is "table length wrong". "ed comes first everywhere".
unfoldable pub set_up_row : (table key address kernel_address : Bytes) → List Check
set_up_row t k a ka =
    wrong_bytes key_bytes k ⇒ ed
    ∷ wrong_bytes address_bytes a ⇒ ed
    ∷ wrong_bytes address_bytes ka ⇒ ed
    ∷ not (length_fits t) ⇒ ef
    ∷ is_zero (num k) ⇒ e4
    ∷ is_zero (num a) ⇒ e4
    ∷ is_zero (num ka) ⇒ e4
    ∷ no_room (room t) (fresh (num k) (num a) (num ka)) ⇒ e7
    ∷ []

abbrev pub set_up_effect : (key address kernel_address : Bytes) → Result
set_up_effect k a ka = change done (fresh (num k) (num a) (num ka))

unfoldable pub set_up : (table key address kernel_address : Bytes) → Outcome
set_up t k a ka = outcome t (set_up_row t k a ka then set_up_effect k a ka)

-- Turn "(the host names the running procedure)". "Turn: ef, 66 33."
unfoldable pub turn_row : (table key : Bytes) → List Check
turn_row t k =
    wrong_bytes key_bytes k ⇒ ed
    ∷ not (sound_table t) ⇒ ef
    ∷ not (listed (store t) (num k)) ⇒ x6633
    ∷ []

abbrev pub turn_effect : (table key : Bytes) → Result
turn_effect t k = change done (put (store t) current_slot (num k))

unfoldable pub turn : (table key : Bytes) → Outcome
turn t k = outcome t (turn_row t k then turn_effect t k)

-- Look "(read one slot)". "Look: ef."
unfoldable pub look_row : (table slot_key : Bytes) → List Check
look_row t k =
    wrong_bytes word_bytes k ⇒ ed
    ∷ not (sound_table t) ⇒ ef
    ∷ []

abbrev pub look_effect : (table slot_key : Bytes) → Result
look_effect t k = answer (looked (word (get (store t) (num k))))

unfoldable pub look : (table slot_key : Bytes) → Outcome
look t k = outcome t (look_row t k then look_effect t k)

-- The system calls, on the store s of a sound table; d is the message's data.
-- "A capability index is a whole word counted from 0; it must be below the current procedure's count for that type."
unfoldable pub index_out_of_range : Store → (d : Bytes) → Kind → Bool
index_out_of_range s d kind = leb (count_of s (current s) kind) (index_word d)

-- the capability that the index names
unfoldable pub chosen : Store → (d : Bytes) → Kind → Capability
chosen s d kind = capability s (current s) kind (suc (index_word d))

unfoldable pub not_covering : Store → (d : Bytes) → Kind → ℕ → Bool
not_covering s d kind x = not (covers kind (chosen s d kind) x)

-- "Call 33, 66 33."
unfoldable pub call_row : Store → (d : Bytes) → List Check
call_row s d =
    index_out_of_range s d call ⇒ x33
    ∷ not_covering s d call (key_word d) ⇒ x33
    ∷ not (listed s (key_word d)) ⇒ x6633
    ∷ []

-- "Call changes nothing."
abbrev pub call_effect : Store → (d : Bytes) → Result
call_effect s d = answer (called (bytes_of address_bytes (address_of s (key_word d))) (payload_of d))

-- "Set Entry 33, 66 33."
unfoldable pub set_entry_row : Store → (d : Bytes) → List Check
set_entry_row s d =
    index_out_of_range s d set_entry ⇒ x33
    ∷ not (listed s (key_word d)) ⇒ x6633
    ∷ []

-- "Set Entry changes only the entry slot."
abbrev pub set_entry_effect : Store → (d : Bytes) → Result
set_entry_effect s d = change done (put s entry_slot (key_word d))

-- a slot of region 00 whose middle is the procedure p
unfoldable pub of_procedure : (p k : ℕ) → Bool
of_procedure p k = eqb (k / 256 ^ 3) (address_slot p / 256 ^ 3)

unfoldable pub without_procedure : (p : ℕ) → Store → Store
without_procedure p [] = []
without_procedure p (r ∷ s) = elim (of_procedure p r.key) [ true ↦ without_procedure p s | false ↦ r ∷ without_procedure p s ]

-- "Delete moves the last key into the freed place, corrects the moved procedure's index, lowers the length, and removes
-- every record of the deleted key and of the freed last place." If the deleted key is itself the last, nothing moves:
-- the first two lines then write what the later steps remove.
unfoldable pub after_delete : Store → (key : ℕ) → Store
after_delete s p =
    without_procedure p (puts s (
    place_slot (index_of s p) holds key_at s (list_length s)
    ∷ index_slot (key_at s (list_length s)) holds index_of s p
    ∷ length_slot holds (list_length s - 1)
    ∷ place_slot (list_length s) holds 0
    ∷ []))

-- "Delete 33, e2, 66 33, e3."
unfoldable pub delete_row : Store → (d : Bytes) → List Check
delete_row s d =
    index_out_of_range s d delete ⇒ x33
    ∷ not_covering s d delete (key_word d) ⇒ x33
    ∷ eqb (key_word d) (entry_key s) ⇒ e2
    ∷ not (listed s (key_word d)) ⇒ x6633
    ∷ eqb (key_word d) (current s) ⇒ e3
    ∷ []

abbrev pub delete_effect : Store → (d : Bytes) → Result
delete_effect s d = change done (after_delete s (key_word d))

-- "Write 33, e7." 33 is also "a Write into kernel storage".
unfoldable pub write_row : (rooms : ℕ) → Store → (d : Bytes) → List Check
write_row rooms s d =
    index_out_of_range s d write ⇒ x33
    ∷ not_covering s d write (write_address d) ⇒ x33
    ∷ in_kernel_storage (write_address d) ⇒ x33
    ∷ no_room rooms (put s (write_address d) (write_value d)) ⇒ e7
    ∷ []

abbrev pub write_effect : Store → (d : Bytes) → Result
write_effect s d = change done (put s (write_address d) (write_value d))

-- Register: a requested capability is judged by what the current procedure holds before the call.
-- 33: "a requested capability within none held"; "Capabilities are not combined"
unfoldable pub contained : Store → Request → Bool
contained s r = any_of (within r.kind r.capability) (held s (current s) r.kind)

-- the tests of one: "held ones of its type in order, up to and including the first that contains it"
unfoldable pub tests_in : Kind → Capability → List Capability → ℕ
tests_in kind b [] = 0
tests_in kind b (a ∷ more) = elim (within kind b a) [ true ↦ 1 | false ↦ suc (tests_in kind b more) ]

-- "the tests: for each requested capability in order"
unfoldable pub tests : Store → List Request → ℕ
tests s [] = 0
tests s (r ∷ rs) = tests_in r.kind r.capability (held s (current s) r.kind) + tests s rs

-- 66 77: "more than 255 requested of one type"
unfoldable pub too_many : List Request → Bool
too_many rs = any_of (λ kind. ltb greatest_count (length (requested_of kind rs))) kinds

-- "Register e4, 33 (index, cover), e9, e5, 77, 33 (requested), e1, e8, e7."
-- "Within the series, e5 is judged over the whole series first."
unfoldable pub register_row : (rooms : ℕ) → Store → (d code mask : Bytes) → List Check
register_row rooms s d code mask =
    is_zero (key_word d) ⇒ e4
    ∷ is_zero (address_word d) ⇒ e4
    ∷ index_out_of_range s d register ⇒ x33
    ∷ not_covering s d register (key_word d) ⇒ x33
    ∷ not (passes mask code) ⇒ e9
    ∷ malformed (series_of d) ⇒ e5
    ∷ too_many (requests d) ⇒ x77
    ∷ not (all_of (contained s) (requests d)) ⇒ x33
    ∷ listed s (key_word d) ⇒ e1
    ∷ eqb (list_length s) greatest_list ⇒ e8
    ∷ no_room rooms (after_register s (key_word d) (address_word d) (requests d)) ⇒ e7
    ∷ []

-- "Success reports the tests"
abbrev pub register_effect : Store → (d : Bytes) → (tests : ℕ) → Result
register_effect s d n = change (registered n) (after_register s (key_word d) (address_word d) (requests d))

-- The row of a message's own type.
-- "Every system call is given message, code and mask; only Register uses what the last two hold."
unfoldable pub own_row : (rooms : ℕ) → Store → (d code mask : Bytes) → Kind → List Check
own_row rooms s d code mask call = call_row s d
own_row rooms s d code mask register = register_row rooms s d code mask
own_row rooms s d code mask delete = delete_row s d
own_row rooms s d code mask set_entry = set_entry_row s d
own_row rooms s d code mask write = write_row rooms s d

abbrev pub own_effect : Store → (d : Bytes) → Kind → Result
own_effect s d call = call_effect s d
own_effect s d register = register_effect s d (tests s (requests d))
own_effect s d delete = delete_effect s d
own_effect s d set_entry = set_entry_effect s d
own_effect s d write = write_effect s d

-- what is left of a system call at its type's own row
abbrev pub do_kind : (rooms : ℕ) → Store → (d code mask : Bytes) → Kind → Result
do_kind rooms s d code mask kind = own_row rooms s d code mask kind then own_effect s d kind

-- "short data; e6"; and, of document 02, No. 1: "66 eb, directly after short data and before 66 e6"
unfoldable pub format_row : (d : Bytes) → Kind → List Check
format_row d kind =
    ltb (length d) (minimum kind) ⇒ e0
    ∷ overlong kind d ⇒ eb
    ∷ leading_bytes kind d ⇒ e6
    ∷ []

-- "aa, then Null succeeds; short data; e6; then" the row of the message's own type. Null's format has no data, and 66 eb is judged "for
-- Null, where it would have succeeded".
abbrev pub unknown_row : List Check
unknown_row = true ⇒ aa ∷ []

abbrev pub null_row : (d : Bytes) → List Check
null_row d = ltb 0 (length d) ⇒ eb ∷ []

unfoldable pub named_row : (rooms : ℕ) → Store → (d code mask : Bytes) → Named → List Check
named_row rooms s d code mask null = null_row d
named_row rooms s d code mask unknown = unknown_row
named_row rooms s d code mask (of_kind kind) = format_row d kind ++ own_row rooms s d code mask kind

-- an unknown type is always refused, so the effect that stands for it here is never reached
abbrev pub named_effect : Store → (d : Bytes) → Named → Result
named_effect s d null = answer done
named_effect s d unknown = answer done
named_effect s d (of_kind kind) = own_effect s d kind

-- what is left of a system call at its message's type
abbrev pub do_named : (rooms : ℕ) → Store → (d code mask : Bytes) → Named → Result
do_named rooms s d code mask n = named_row rooms s d code mask n then named_effect s d n

-- "System calls: ef, empty, ea,": "every system call judges the mask's length"
unfoldable pub system_row : (table message mask : Bytes) → List Check
system_row t m mask =
    wrong_bytes word_bytes mask ⇒ ed
    ∷ not (sound_table t) ⇒ ef
    ∷ eqb (length m) 0 ⇒ e0
    ∷ ltb greatest_message (length m) ⇒ ea
    ∷ []

-- all checks of a system call, in order: those of every system call, then what its type names
abbrev pub whole_row : (table message code mask : Bytes) → List Check
whole_row t m code mask = system_row t m mask ++ named_row (room t) (store t) (data_of m) code mask (named (type_of m))

unfoldable pub system_call : (table message code mask : Bytes) → Outcome
system_call t m code mask = outcome t (whole_row t m code mask then named_effect (store t) (data_of m) (named (type_of m)))
