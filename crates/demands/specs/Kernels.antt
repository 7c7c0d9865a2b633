-- What the demands speak of: a kernel, the state that it is lent, its calls, and what happened since a set-up.
-- A kernel is any function from a state and a call to a step; `defined` is the one that the rules define.
use Rattle.std.specs.Prelude.{ℕ, List, [], ◌∷◌, Bool, true, false, ◌&&◌, eqb}
use Rattle.std.proofs.Math.Option.{Option, none, some}
use Rattle.rules.specs.Words.{Bytes, AllBytes}
use Rattle.rules.specs.Table.{Store, store}
use Rattle.rules.specs.Capabilities.{register, number}
use Rattle.rules.specs.Procedures.{current}
use Rattle.rules.specs.Sound.{SoundTable}
use Rattle.rules.specs.Messages.{type_of, data_of, key_word}
use Rattle.rules.specs.Answers.{Answer, succeeds, Outcome}
use Rattle.rules.specs.Calls.{set_up, turn, look, system_call}

-- THE STATE, which calls are lent and leave: the storage table.
pub record State : Type 0 where
  pub table : Bytes

-- the state that has this table, and the state s with another table: whatever else s has is as it was
abbrev pub state_of : (table : Bytes) → State
state_of t = record { table = t }

abbrev pub with_table : State → (table : Bytes) → State
with_table s t = record { table = t }

-- what the ledger holds in a state
abbrev pub ledger : State → Store
ledger s = store s.table

-- what the host lends are bytes
abbrev pub StateBytes : State → Type 0
StateBytes s = AllBytes s.table

abbrev pub SoundState : State → Type 0
SoundState s = SoundTable s.table

-- A CALL, by what it is lent beside the state
pub data AnyCall : Type 0 where
  setting_up : (key address kernel_address : Bytes) → AnyCall
  turning : (key : Bytes) → AnyCall
  looking : (slot_key : Bytes) → AnyCall
  calling : (message code mask : Bytes) → AnyCall

abbrev pub LentBytes : AnyCall → Type 0
LentBytes (setting_up k a ka) = AllBytes k × AllBytes a × AllBytes ka
LentBytes (turning k) = AllBytes k
LentBytes (looking k) = AllBytes k
LentBytes (calling m code mask) = AllBytes m × AllBytes code × AllBytes mask

-- the message that a call is given; only a system call has one
abbrev pub message_in : AnyCall → Bytes
message_in (setting_up k a ka) = []
message_in (turning k) = []
message_in (looking k) = []
message_in (calling m code mask) = m

-- a call that begins anew if it succeeds: a set-up
unfoldable pub starts : AnyCall → Bool
starts (setting_up k a ka) = true
starts (turning k) = false
starts (looking k) = false
starts (calling m code mask) = false

-- a Register of the procedure p
unfoldable pub asks_to_register : AnyCall → (p : ℕ) → Bool
asks_to_register (setting_up k a ka) p = false
asks_to_register (turning k) p = false
asks_to_register (looking k) p = false
asks_to_register (calling m code mask) p = eqb (type_of m) (number register) && eqb (key_word (data_of m)) p

-- A STEP: a call's answer, and the state after it
pub record Step : Type 0 where
  pub answer : Answer
  pub after : State

-- A KERNEL
abbrev pub Kernel : Type 0
Kernel = State → AnyCall → Step

-- what the rules say of a call on a table
unfoldable pub defined_on : (table : Bytes) → AnyCall → Outcome
defined_on t (setting_up k a ka) = set_up t k a ka
defined_on t (turning k) = turn t k
defined_on t (looking k) = look t k
defined_on t (calling m code mask) = system_call t m code mask

-- They speak of the table alone, so the rest of the state is left as it was.
abbrev pub on_table : State → Outcome → Step
on_table s o = record { answer = o.answer; after = with_table s o.table }

-- the kernel that the rules define
abbrev pub defined : Kernel
defined s c = on_table s (defined_on s.table c)

-- AN EVENT: a call in the state before it, and its step
pub record Event : Type 0 where
  pub before : State
  pub call : AnyCall
  pub step : Step

-- what the ledger held before it, and what it holds after
abbrev pub ledger_before : Event → Store
ledger_before e = ledger e.before

abbrev pub ledger_after : Event → Store
ledger_after e = ledger e.step.after

-- the procedure that acts in it, the current one; if it registers another, that is the registrar
abbrev pub actor_of : Event → ℕ
actor_of e = current (ledger_before e)

abbrev pub registrar_of : Event → ℕ
registrar_of = actor_of

-- it succeeded; it began anew; it registered the procedure p
abbrev pub succeeded : Event → Bool
succeeded e = succeeds e.step.answer

unfoldable pub started_anew : Event → Bool
started_anew e = starts e.call && succeeded e

unfoldable pub registers : Event → (p : ℕ) → Bool
registers e p = asks_to_register e.call p && succeeded e

-- WHAT HAPPENED since a state: events, the latest first. The state now, what the ledger holds now, and the last registration of the
-- procedure p.
unfoldable pub state_now : State → List Event → State
state_now s [] = s
state_now s (e ∷ es) = e.step.after

abbrev pub ledger_now : State → List Event → Store
ledger_now s es = ledger (state_now s es)

unfoldable pub last_registration : (p : ℕ) → List Event → Option Event
last_registration p [] = none
last_registration p (e ∷ es) = elim (registers e p) [ true ↦ some e | false ↦ last_registration p es ]

module _ (K : Kernel) where
  abbrev pub event : State → AnyCall → Event
  event s c = record { before = s; call = c; step = K s c }

  -- what happens when the kernel is called from the state s on; the list has the latest call first, too
  unfoldable pub history : State → List AnyCall → List Event
  history s [] = []
  history s (c ∷ cs) = event (state_now s (history s cs)) c ∷ history s cs

  -- the state after these calls
  abbrev pub state_after : State → List AnyCall → State
  state_after s cs = state_now s (history s cs)
