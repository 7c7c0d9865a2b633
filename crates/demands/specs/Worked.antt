-- The sequence of calls that the demands' page tells, as the defined kernel carries it out. Each line is computed.
use Rattle.std.specs.Prelude.{ℕ, ◌≡◌, List, [], ◌∷◌, map, true}
use Rattle.std.proofs.Math.Option.{Option, none, some}
use Rattle.rules.specs.Words.{key_bytes, bytes_of, Bytes, same_bytes}
use Rattle.rules.specs.Table.{get}
use Rattle.rules.specs.Capabilities.{write}
use Rattle.rules.specs.Procedures.{current, held}
use Rattle.rules.specs.Answers.{x33, refused, done, registered}
use Rattle.rules.specs.Examples.{K1, K2, mask_of_00_and_60, set_up_table, requested, register_message, write_capability, write_message}
use Rattle.demands.specs.Kernels.{State, state_of, ledger, AnyCall, turning, calling, defined, Event, registrar_of, last_registration, history, state_after}

-- the call that sends a message, with the code 00 (the `sending` of Examples is what comes of it on a table)
abbrev pub sending : (message : Bytes) → AnyCall
sending m = calling m (0x00 ∷ []) mask_of_00_and_60

-- the state that a set-up of the procedure 1 leaves
abbrev pub start : State
start = state_of (set_up_table 1344)

-- the latest first: 2 writes 7 at 8005; the host turns to 2; 1 registers 2
abbrev pub calls : List AnyCall
calls =
    sending (write_message 0x8005 7)
    ∷ turning (bytes_of key_bytes K2)
    ∷ sending (register_message K2 (requested write (write_capability 0x8000 5)))
    ∷ []

abbrev pub events : List Event
events = history defined start calls

abbrev pub reached : State
reached = state_after defined start calls

-- the registrar of the last registration
abbrev registrar_among : Option Event → Option ℕ
registrar_among none = none
registrar_among (some e) = some (registrar_of e)

abbrev pub WorkedSequence : Type 0
WorkedSequence =
    (map (λ (e : Event). e.step.answer) events ≡ done ∷ done ∷ registered 1 ∷ [])
    × (current (ledger reached) ≡ K2)
    × (get (ledger reached) 0x8005 ≡ 7)
    × (registrar_among (last_registration K2 events) ≡ some K1)
    × (held (ledger reached) K2 write ≡ write_capability 0x8000 5 ∷ [])
    × ((defined reached (sending (write_message 0x8006 7))).answer ≡ refused x33)
    × (same_bytes (defined reached (sending (write_message 0x8006 7))).after.table reached.table ≡ true)
    × ((defined reached (sending (write_message 0x8000 7))).answer ≡ done)
    × (get (ledger (defined reached (sending (write_message 0x8000 7))).after) 0x8000 ≡ 7)
