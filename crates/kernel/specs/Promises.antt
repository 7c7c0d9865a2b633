-- What the four functions on a table promise, for every input: the reply, and every byte of the table after. What `payload`
-- promises stands in crates/payloads.
use Rattle.rules.specs.Words.{Bytes}
use Rattle.rules.specs.Calls.{set_up, turn, look, system_call}
use Rattle.rules.specs.Source.{Reply}
use Rattle.results.specs.Results.{Gives}

abbrev pub SetUpPromise : (table key address kernel_address : Bytes) → Reply → (after : Bytes) → Type 0
SetUpPromise t k a ka r after = Gives (set_up t k a ka) r after

abbrev pub TurnPromise : (table key : Bytes) → Reply → (after : Bytes) → Type 0
TurnPromise t k r after = Gives (turn t k) r after

abbrev pub LookPromise : (table slot_key : Bytes) → Reply → (after : Bytes) → Type 0
LookPromise t k r after = Gives (look t k) r after

abbrev pub SystemCallPromise : (table message code mask : Bytes) → Reply → (after : Bytes) → Type 0
SystemCallPromise t m code mask r after = Gives (system_call t m code mask) r after
