-- A Call's payload is the caller's own, so the reply that stands for a system call's answer has all of the answer's fields: a row's
-- refusals have no payload, and of the results that the rows end in only Call's has one, which is the rest of the message.
use mathlib.Core.Path.{◌≡◌, refl}
use mathlib.Core.List.{List}
use Rattle.rules.specs.Words.{Bytes}
use Rattle.rules.specs.Table.{store}
use Rattle.rules.specs.Capabilities.{Kind, call, register, delete, set_entry, write}
use Rattle.rules.specs.Messages.{Named, null, unknown, of_kind, named, type_of, data_of}
use Rattle.rules.specs.Answers.{fields, Result, outcome, Check, judge}
use Rattle.rules.specs.Calls.{set_up, turn, look, own_effect, named_effect, system_call}
use Rattle.rules.specs.Source.{fields_of, OwnPayload, reply_of}
use Rattle.rules.proofs.Source.{reply-fields}
use Rattle.laws.proofs.Rows.{judge-cases}

own : (m t : Bytes) → Result → Type 0
own m t r = OwnPayload m (outcome t r).answer

refused-own : (m t : Bytes) (cs : List Check) (r : Result) → own m t r → own m t (judge cs r)
unfolding own outcome
refused-own m t cs r h = judge-cases (own m t) cs r (λ c i e. tt) (λ ps. h)

kind-own : (t m : Bytes) (kind : Kind) → own m t (own_effect (store t) (data_of m) kind)
unfolding own outcome
kind-own t m call = refl
kind-own t m register = tt
kind-own t m delete = tt
kind-own t m set_entry = tt
kind-own t m write = tt

named-own : (t m : Bytes) (n : Named) → own m t (named_effect (store t) (data_of m) n)
unfolding own outcome
named-own t m null = tt
named-own t m unknown = tt
named-own t m (of_kind kind) = kind-own t m kind

pub own-payload : (t m code mask : Bytes) → OwnPayload m (system_call t m code mask).answer
unfolding system_call own
own-payload t m code mask = refused-own m t _ _ (named-own t m (named (type_of m)))

-- no other call has a payload, so their replies need no message
pub set-up-payload : (t k a ka m : Bytes) → OwnPayload m (set_up t k a ka).answer
unfolding set_up own outcome
set-up-payload t k a ka m = refused-own m t _ _ tt

pub turn-payload : (t k m : Bytes) → OwnPayload m (turn t k).answer
unfolding turn own outcome
turn-payload t k m = refused-own m t _ _ tt

pub look_payload : (t k m : Bytes) → OwnPayload m (look t k).answer
unfolding look own outcome
look_payload t k m = refused-own m t _ _ tt

pub system-call-fields : (t m code mask : Bytes) → fields_of (reply_of (system_call t m code mask).answer) m ≡ fields (system_call t m code mask).answer
system-call-fields t m code mask = reply-fields m (system_call t m code mask).answer (own-payload t m code mask)
