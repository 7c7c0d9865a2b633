-- A Call's payload is in the caller's own message, and no other answer has one: of every call, by the law of each.
use mathlib.Core.List.{[]}
use Rattle.rules.specs.Words.{Bytes}
use Rattle.rules.specs.Source.{OwnPayload}
use Rattle.laws.proofs.OwnPayload.{own-payload, set-up-payload, turn-payload, look_payload}
use Rattle.demands.specs.Kernels.{AnyCall, setting_up, turning, looking, calling, message_in, defined_on}

pub own-message : (t : Bytes) (c : AnyCall) → OwnPayload (message_in c) (defined_on t c).answer
unfolding defined_on
own-message t (setting_up k a ka) = set-up-payload t k a ka []
own-message t (turning k) = turn-payload t k []
own-message t (looking k) = look_payload t k []
own-message t (calling m code mask) = own-payload t m code mask
