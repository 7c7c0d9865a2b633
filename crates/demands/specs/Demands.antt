-- The three demands, in the desk's words, as statements about any kernel: one can be false of a wrong kernel.
--
-- 1. Every call, on any storage table and any message, ends with a listed answer. Nobody has to check first. A refusal returns its
--    listed code and changes no byte of the table.
-- 2. A call succeeds exactly when the Beaker Specification of 15 March 2019, with the codes of 25 March and the points settled in
--    document 01, permits it. The answer and the whole table afterwards are those it defines.
-- 3. From a set-up that succeeds until the next, after any sequence of calls made through this kernel alone, each listed key stands
--    once, its stored index names that place, and nothing is stored for an unlisted key. Each capability of a listed procedure
--    registered since then lies within a single capability its registrar held when it was last registered. No Write call ever changes
--    kernel storage, and every other slot changes only by a Write that a capability of the current procedure covers.
--
-- A worked sequence (computed in Worked): a set-up lists the procedure 1, which holds Write(0, 2^256−1). Then
--    1 registers the procedure 2 with Write(8000 hex, 5); the host turns to 2; 2 writes 7 at 8005.
-- `calls` is the list of these three, the latest first; its history from the state that the set-up left has three events.
-- `state_after` them is the state now: 2 is current, slot 8005 holds 7. The last registration of 2 is the earliest of the three events,
-- and the registrar is 1: what 2 holds lies within 1's Write(0, 2^256−1), as `granted` says. One call more: 2 writes at 8006 and is
-- refused with 33, so by `refused_kept` the state after it is the state now. Had it written at 8000, slot 8000 would have changed by a
-- covered Write, and `others_kept` names its capability: the first of 2's.
use Rattle.std.specs.Prelude.{ℕ, suc, ◌^◌, ◌<◌, ◌≤◌, ◌≡◌, ◌⊎◌, ◌≢◌, List, [], ◌∷◌, true, false, length}
use Rattle.std.proofs.Math.Option.{none, some}
use Rattle.rules.specs.Words.{key_bytes, Bytes, Every, OneOf}
use Rattle.rules.specs.Table.{Store, get}
use Rattle.rules.specs.KernelStorage.{in_kernel_storage, slot}
use Rattle.rules.specs.Capabilities.{Kind, call, register, delete, set_entry, write, number, Capability, covers, within}
use Rattle.rules.specs.Procedures.{key_at, index_of, count_of, capability, held, InList, Listed, Kept}
use Rattle.rules.specs.Sound.{SoundTable}
use Rattle.rules.specs.Messages.{type_of, data_of, Named, null, unknown, of_kind, named, minimum, index_word, write_address, write_value}
use Rattle.rules.specs.Answers.{Refusal, ed, ef, e0, ea, aa, eb, e6, e4, x33, e9, e5, x77, e1, e2, e3, x6633, e8, e7, Answer, refused, done, called, registered, looked, succeeds}
use Rattle.demands.specs.Kernels.{State, ledger, StateBytes, SoundState, AnyCall, setting_up, turning, looking, calling, LentBytes, starts, Step, Kernel, defined, Event, ledger_before, ledger_after, actor_of, succeeded, started_anew, registers, registrar_of, ledger_now, last_registration, event, history, state_after}

-- DEMAND 1. "Nobody has to check first": the statement has no condition but that bytes are lent.
-- The codes that a call may be refused with, as its row of document 01 prints them, and 66 eb where document 02, No. 1 puts it. They are
-- written out, and not taken from the rows, so that a row with a stray code is refused:
abbrev pub codes_of_kind : Kind → List Refusal
codes_of_kind call = e6 ∷ x33 ∷ x6633 ∷ []
codes_of_kind register = e6 ∷ e4 ∷ x33 ∷ e9 ∷ e5 ∷ x77 ∷ e1 ∷ e8 ∷ e7 ∷ []
codes_of_kind delete = eb ∷ e6 ∷ x33 ∷ e2 ∷ x6633 ∷ e3 ∷ []
codes_of_kind set_entry = eb ∷ e6 ∷ x33 ∷ x6633 ∷ []
codes_of_kind write = eb ∷ x33 ∷ e7 ∷ []

abbrev pub codes_of_named : Named → List Refusal
codes_of_named null = eb ∷ []
codes_of_named unknown = aa ∷ []
codes_of_named (of_kind kind) = e0 ∷ codes_of_kind kind

abbrev pub codes_of : AnyCall → List Refusal
codes_of (setting_up k a ka) = ed ∷ ef ∷ e4 ∷ e7 ∷ []
codes_of (turning k) = ed ∷ ef ∷ x6633 ∷ []
codes_of (looking k) = ed ∷ ef ∷ []
codes_of (calling m code mask) = ed ∷ ef ∷ e0 ∷ ea ∷ codes_of_named (named (type_of m))

-- The success that a call may report: Call an address and a payload, Register its tests, Look a value, the others nothing but the
-- flag. A message of unknown type has none, and an empty one, whose type is read as 0, has none either.
pub data Reports : Named → Answer → Type 0 where
  of_null : Reports null done
  of_call : (address payload : Bytes) → Reports (of_kind call) (called address payload)
  of_register : (tests : ℕ) → Reports (of_kind register) (registered tests)
  of_delete : Reports (of_kind delete) done
  of_set_entry : Reports (of_kind set_entry) done
  of_write : Reports (of_kind write) done

pub data MayReport : AnyCall → Answer → Type 0 where
  of_set_up : {k a ka : Bytes} → MayReport (setting_up k a ka) done
  of_turn : {k : Bytes} → MayReport (turning k) done
  of_look : {k : Bytes} → (value : Bytes) → MayReport (looking k) (looked value)
  of_message : {m code mask : Bytes} {a : Answer} → 1 ≤ length m → Reports (named (type_of m)) a → MayReport (calling m code mask) a

-- a listed answer to a call in the state s
pub data ListedAnswer (s : State) (c : AnyCall) (step : Step) : Type 0 where
  -- "A success is flag 1 with no code bytes": one that the call may report
  success : MayReport c step.answer → ListedAnswer s c step
  -- "A refusal is flag 0 with these bytes, no other result" (`fields` of a refusal): a code listed for the call, and the state as lent
  refusal : (code : Refusal) → OneOf code (codes_of c) → step.answer ≡ refused code → step.after ≡ s → ListedAnswer s c step

abbrev pub Demand1 : Kernel → Type 0
Demand1 K = (s : State) (c : AnyCall) → StateBytes s → LentBytes c → ListedAnswer s c (K s c)

-- DEMAND 2. Each call's step is the one that is defined, on every input: the answer, and every byte of the state after.
abbrev pub Demand2 : Kernel → Type 0
Demand2 K = (s : State) (c : AnyCall) → StateBytes s → LentBytes c → K s c ≡ defined s c

-- DEMAND 3. What its sentences speak of:
-- a "Write call", whatever its data
abbrev pub IsWrite : AnyCall → Type 0
IsWrite (setting_up k a ka) = ⊥
IsWrite (turning k) = ⊥
IsWrite (looking k) = ⊥
IsWrite (calling m code mask) = type_of m ≡ number write

-- a message of 15 March that asks to write v at x by the capability with the number `which`, counted from 1: its index counts from 0
pub record WriteMessage (m : Bytes) (which x v : ℕ) : Type 0 where
  pub is_write : type_of m ≡ number write
  pub whole : minimum write ≤ length (data_of m)
  pub index : which ≡ suc (index_word (data_of m))
  pub address : x ≡ write_address (data_of m)
  pub value : v ≡ write_value (data_of m)

abbrev pub AsksToWrite : AnyCall → (which x v : ℕ) → Type 0
AsksToWrite (setting_up k a ka) which x v = ⊥
AsksToWrite (turning k) which x v = ⊥
AsksToWrite (looking k) which x v = ⊥
AsksToWrite (calling m code mask) which x v = WriteMessage m which x v

-- "a single capability": the capability c lies within one of the same type that the holder holds
pub record LiesWithinOne (s : Store) (holder : ℕ) (kind : Kind) (c : Capability) : Type 0 where
  pub which : ℕ
  pub first : 1 ≤ which
  pub last : which ≤ count_of s holder kind
  pub inside : within kind c (capability s holder kind which) ≡ true

-- each capability that the procedure p holds in s' lies within a single one that the registrar of the event e held before it
abbrev pub Granted : Event → Store → (p : ℕ) → Type 0
Granted e s' p = (kind : Kind) → Every (LiesWithinOne (ledger_before e) (registrar_of e) kind) (held s' p kind)

-- "a Write that a capability of the current procedure covers": it succeeded, and stored at x what it asked to
pub record CoveredWrite (e : Event) (x : ℕ) : Type 0 where
  pub which : ℕ
  pub asked : AsksToWrite e.call which x (get (ledger_after e) x)
  pub first : 1 ≤ which
  pub last : which ≤ count_of (ledger_before e) (actor_of e) write
  pub covered : covers write (capability (ledger_before e) (actor_of e) write which) x ≡ true
  pub permitted : succeeded e ≡ true

-- a covered Write at some address, outside kernel storage
pub record LandsCovered (e : Event) : Type 0 where
  pub at : ℕ
  pub outside : in_kernel_storage at ≡ false
  pub write : CoveredWrite e at

-- "kernel storage" is the same in two states
abbrev pub SameKernelStorage : State → State → Type 0
SameKernelStorage s s' = (k : ℕ) → in_kernel_storage k ≡ true → get (ledger s') k ≡ get (ledger s) k

-- What is so of a state s:
pub record Stands (s : State) : Type 0 where
  -- it is sound, so what `ledger` reads is all that the table's bytes hold
  pub sound : SoundState s
  -- "each listed key stands once"
  pub once : (m n : ℕ) → InList (ledger s) m → InList (ledger s) n → key_at (ledger s) m ≡ key_at (ledger s) n → m ≡ n
  -- "its stored index names that place"
  pub indexed : (n : ℕ) → InList (ledger s) n → index_of (ledger s) (key_at (ledger s) n) ≡ n
  -- "nothing is stored for an unlisted key"
  pub nothing : (p : ℕ) → p < 256 ^ key_bytes → (Listed (ledger s) p → ⊥) → (end : ℕ) → end < 256 ^ 3 → get (ledger s) (slot 0 p end) ≡ 0

-- What is so of what happened since the state `start`, which a set-up left, or any sound state:
pub record Past (start : State) (events : List Event) : Type 0 where
  -- "Each capability of a listed procedure registered since then lies within a single capability its registrar held when it was last
  -- registered."
  pub granted : (p : ℕ) → Listed (ledger_now start events) p → (e : Event) → last_registration p events ≡ some e
      → Granted e (ledger_now start events) p
  -- a listed procedure that was not registered since was listed in `start`, and has the address and the capabilities that it had there
  pub original : (p : ℕ) → Listed (ledger_now start events) p → last_registration p events ≡ none
      → Kept (ledger start) (ledger_now start events) p

-- What one call, the event e, may do in a sound state:
pub record Next (e : Event) : Type 0 where
  -- the state after it is sound, and 66 ef is not given
  pub stays_sound : SoundState e.step.after
  pub never_unsound : e.step.answer ≢ refused ef
  -- if it is refused, it changes no byte
  pub refused_kept : succeeded e ≡ false → e.step.after ≡ e.before
  -- unless it is a set-up that succeeds: a listed procedure that it did not register was listed before it, and has what it had
  pub procedures_kept : started_anew e ≡ false → (p : ℕ) → Listed (ledger_after e) p → registers e p ≡ false
      → Kept (ledger_before e) (ledger_after e) p
  -- one that it registered holds what lies within single capabilities of the registrar
  pub registered_within : (p : ℕ) → registers e p ≡ true → Granted e (ledger_after e) p
  -- a Write that succeeds is covered, also if it changes nothing
  pub writes_covered : IsWrite e.call → succeeded e ≡ true → LandsCovered e
  -- "No Write call ever changes kernel storage"
  pub kernel_kept : IsWrite e.call → SameKernelStorage e.before e.step.after
  -- "and every other slot changes only by a Write that a capability of the current procedure covers", unless a set-up succeeds
  pub others_kept : started_anew e ≡ false → (k : ℕ) → in_kernel_storage k ≡ false
      → (get (ledger_after e) k ≡ get (ledger_before e) k) ⊎ CoveredWrite e k

module _ (K : Kernel) where
  -- one call more, whichever it is
  abbrev pub AnyNext : State → Type 0
  AnyNext s = (c : AnyCall) → LentBytes c → Next (event K s c)

  -- "any sequence of calls", "until the next" set-up that succeeds
  abbrev pub Sequence : State → List AnyCall → Type 0
  Sequence s [] = Unit {0}
  Sequence s (c ∷ cs) = LentBytes c × (started_anew (event K (state_after K s cs) c) ≡ false) × Sequence s cs

  -- the sentences, after the calls cs from the state `start`
  pub record HoldsAfter (start : State) (cs : List AnyCall) : Type 0 where
    pub stands : Stands (state_after K start cs)
    pub past : Past start (history K start cs)
    pub next : AnyNext (state_after K start cs)

  pub record Demand3 : Type 0 where
    -- "From a set-up that succeeds until the next, after any sequence of calls made through this kernel alone"
    pub after_set_up : (s : State) (c : AnyCall) → StateBytes s → LentBytes c → starts c ≡ true → succeeds (K s c).answer ≡ true
        → (cs : List AnyCall) → Sequence (K s c).after cs → HoldsAfter (K s c).after cs
    -- the same from every sound state, whatever led there
    pub after_sound : (s : State) → SoundState s → (cs : List AnyCall) → Sequence s cs → HoldsAfter s cs
    -- "No Write call ever": in every state, sound or not
    pub every_write : (s : State) (c : AnyCall) → StateBytes s → LentBytes c → IsWrite c → SameKernelStorage s (K s c).after
    -- and where the table is not sound, the state is left as it is, to the last byte, by every call but a set-up that succeeds
    pub unsound_kept : (s : State) (c : AnyCall) → StateBytes s → LentBytes c → (SoundTable s.table → ⊥)
        → started_anew (event K s c) ≡ false → (K s c).after ≡ s
