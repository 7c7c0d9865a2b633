-- Stand-ins for the kernel that the demands have to reject. "These stand-ins have to be rejected": the five that document 01
-- lists, and then more, among them the error that it tells a reviewer to look for first. Each is the rules' kernel but for what its comment says.
use Rattle.std.specs.Prelude.{ℕ, suc, ◌-◌, [], ◌∷◌, ◌++◌, true, false, not, ◌&&◌, eqb, length, take, drop, replicate}
use Rattle.rules.specs.Words.{Bytes, word}
use Rattle.rules.specs.Table.{record_size, Store, ◌holds◌, put, puts, record_bytes, bytes, store, room}
use Rattle.rules.specs.KernelStorage.{index_slot, length_slot, place_slot, kernel_address_slot}
use Rattle.rules.specs.Capabilities.{register, delete, write, number}
use Rattle.rules.specs.Procedures.{list_length, key_at, index_of}
use Rattle.rules.specs.Sound.{sound_table, all_of}
use Rattle.rules.specs.Messages.{type_of, data_of, of_kind, key_word, write_address, write_value, requests, null_number}
use Rattle.rules.specs.Answers.{x33, Answer, refused, done, called, registered, looked, succeeds, Result, change, ◌⇒◌, ◌then◌, Outcome, outcome, x6633}
use Rattle.rules.specs.Calls.{after_register, without_procedure, set_up, turn, look, contained, tests, register_row, register_effect, format_row, named_row, system_row, system_call}
use Rattle.demands.specs.Kernels.{State, setting_up, turning, looking, calling, Step, on_table, Kernel, defined}

-- each call's step is another than the defined one, made of that and the state lent
abbrev everywhere : (State → Step → Step) → Kernel
everywhere f s c = f s (defined s c)

-- a kernel of four calls; the defined ones
abbrev of_calls : (sets : State → (key address kernel_address : Bytes) → Step) → (turns : State → (key : Bytes) → Step)
    → (looks : State → (slot_key : Bytes) → Step) → (calls : State → (message code mask : Bytes) → Step) → Kernel
of_calls sets turns looks calls s (setting_up k a ka) = sets s k a ka
of_calls sets turns looks calls s (turning k) = turns s k
of_calls sets turns looks calls s (looking k) = looks s k
of_calls sets turns looks calls s (calling m code mask) = calls s m code mask

abbrev sets_up : State → (key address kernel_address : Bytes) → Step
sets_up s k a ka = defined s (setting_up k a ka)

abbrev turns : State → (key : Bytes) → Step
turns s k = defined s (turning k)

abbrev looks : State → (slot_key : Bytes) → Step
looks s k = defined s (looking k)

abbrev calls : State → (message code mask : Bytes) → Step
calls s m code mask = defined s (calling m code mask)

-- only the system calls differ
abbrev only_calls : ((table message code mask : Bytes) → Outcome) → Kernel
only_calls f = of_calls sets_up turns looks (λ s m code mask. on_table s (f s.table m code mask))

-- "one that refuses all"
abbrev pub refusing : Kernel
refusing = everywhere (λ s step. record { answer = refused x33; after = s })

-- "one that always answers flag 1"
abbrev pub agreeing : Kernel
agreeing = everywhere (λ s step. record { answer = done; after = step.after })

-- "one that leaves the table untouched"
abbrev pub untouching : Kernel
untouching = everywhere (λ s step. record { answer = step.answer; after = s })

-- "one that tests and stores the first requested capability and copies the others untested": the eighth check of Register's row
-- is another
unfoldable pub copy_register : (rooms : ℕ) → Store → (d code mask : Bytes) → Result
copy_register rooms s d code mask =
    take 7 (register_row rooms s d code mask)
    ++ (not (all_of (contained s) (take 1 (requests d))) ⇒ x33 ∷ drop 8 (register_row rooms s d code mask))
    then register_effect s d (tests s (take 1 (requests d)))

unfoldable pub copy_call : (table message code mask : Bytes) → Outcome
copy_call t m code mask =
    elim (eqb (type_of m) (number register)) [
      | true ↦
          outcome t (
          system_row t m mask ++ format_row (data_of m) register
          then copy_register (room t) (store t) (data_of m) code mask)
      | false ↦ system_call t m code mask
    ]

abbrev pub copying : Kernel
copying = only_calls copy_call

-- "one that invents the tests"
unfoldable pub invent_tests : Answer → Answer
invent_tests (refused c) = refused c
invent_tests done = done
invent_tests (called a p) = called a p
invent_tests (registered n) = registered 1
invent_tests (looked v) = looked v

abbrev pub inventing : Kernel
inventing = everywhere (λ s step. record { answer = invent_tests step.answer; after = step.after })

-- "Delete that leaves the moved procedure's old index": that of the last place, where it stood
unfoldable pub forget_index : Store → (key : ℕ) → Store
forget_index s p =
    without_procedure p (puts s (
    place_slot (index_of s p) holds key_at s (list_length s)
    ∷ index_slot (key_at s (list_length s)) holds list_length s
    ∷ length_slot holds (list_length s - 1)
    ∷ place_slot (list_length s) holds 0
    ∷ []))

unfoldable pub forget : (table message code mask : Bytes) → Outcome
forget t m code mask =
    elim (eqb (type_of m) (number delete)) [
      | true ↦
          outcome t (
          system_row t m mask ++ named_row (room t) (store t) (data_of m) code mask (of_kind delete)
          then change done (forget_index (store t) (key_word (data_of m))))
      | false ↦ system_call t m code mask
    ]

abbrev pub forgetting : Kernel
forgetting = only_calls forget

-- one that answers 33 to every system call, and stores what the rules would
abbrev pub lying : Kernel
lying = only_calls (λ t m code mask. record { answer = refused x33; table = (system_call t m code mask).table })

-- one that registers another key than the message names: the next one
unfoldable pub next_key : (message : Bytes) → Bytes
next_key m =
    elim (eqb (type_of m) (number register)) [
      | true ↦ take 33 m ++ (word (suc (key_word (data_of m))) ++ drop 65 m)
      | false ↦ m
    ]

abbrev pub renaming : Kernel
renaming = only_calls (λ t m code mask. system_call t (next_key m) code mask)

-- one that hides a record: where the table is not full it stands behind a gap of zeros, where `store` does not read it
unfoldable pub hide : Outcome → Outcome
hide o =
    record { answer = o.answer; table = take (length o.table - record_size) o.table ++ record_bytes (0 holds 1 ∷ []) }

abbrev pub hiding : Kernel
hiding = only_calls (λ t m code mask. hide (system_call t m code mask))

-- one that hides a record, and clears it before it reads the table again: its answers do not tell, only the bytes do
unfoldable pub clear : (table : Bytes) → Bytes
clear t = bytes (length t) (store t)

abbrev pub concealing : Kernel
concealing =
    of_calls sets_up
    (λ s k. on_table s (turn (clear s.table) k))
    (λ s k. on_table s (look (clear s.table) k))
    (λ s m code mask. on_table s (hide (system_call (clear s.table) m code mask)))

-- one that clears such a record in a Turn, of a table that is not sound
abbrev pub tidying : Kernel
tidying = of_calls sets_up (λ s k. on_table s (turn (clear s.table) k)) looks calls

-- two that store 1 unasked in every system call: one outside kernel storage, one as the kernel address
unfoldable pub scribble : (slot_key : ℕ) → Outcome → Outcome
scribble k o = record { answer = o.answer; table = bytes (length o.table) (put (store o.table) k 1) }

abbrev pub scribbling : Kernel
scribbling = only_calls (λ t m code mask. scribble 0 (system_call t m code mask))

abbrev pub usurping : Kernel
usurping = only_calls (λ t m code mask. scribble kernel_address_slot (system_call t m code mask))

-- one that spoils the table in a refused set-up
unfoldable pub spoil : Outcome → Outcome
spoil o =
    elim (succeeds o.answer) [ true ↦ o | false ↦ record { answer = o.answer; table = replicate (length o.table) 0 } ]

abbrev pub spoiling : Kernel
spoiling = of_calls (λ s k a ka. on_table s (spoil (set_up s.table k a ka))) turns looks calls

-- one that refuses every Turn, and turns all the same
abbrev pub veering : Kernel
veering = of_calls sets_up (λ s k. record { answer = refused x6633; after = (turns s k).after }) looks calls

-- one that answers every Look without a value
abbrev pub withholding : Kernel
withholding = of_calls sets_up turns (λ s k. record { answer = done; after = s }) calls

-- one that lists a deleted procedure again: each Null registers the procedure 2
unfoldable pub revive : (table message code mask : Bytes) → Outcome
revive t m code mask =
    elim (eqb (type_of m) null_number) [
      | true ↦ outcome t (change done (after_register (store t) 2 0x33 []))
      | false ↦ system_call t m code mask
    ]

abbrev pub reviving : Kernel
reviving = only_calls revive

-- one that carries out a Write on a table that is not sound, wherever it goes
unfoldable pub overwrite : (table message code mask : Bytes) → Outcome
overwrite t m code mask =
    elim (eqb (type_of m) (number write) && not (sound_table t)) [
      | true ↦ outcome t (change done (put (store t) (write_address (data_of m)) (write_value (data_of m))))
      | false ↦ system_call t m code mask
    ]

abbrev pub overwriting : Kernel
overwriting = only_calls overwrite
