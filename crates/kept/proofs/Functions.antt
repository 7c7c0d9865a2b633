-- The kernel of the five functions meets the three demands: a promised reply stands for the defined answer, so the kernel is equal to
-- the defined one on every input, which is demand 2; and what meets demand 2 meets the other two.
use mathlib.Core.Path.{◌≡◌, refl, sym, ap, ◌∙◌}
use mathlib.Core.List.{[]}
use Rattle.rules.specs.Words.{Bytes, AllBytes}
use Rattle.rules.specs.Answers.{Answer, refused, done, called, registered, looked, Outcome, fields}
use Rattle.demands.specs.Kernels.{State, StateBytes, AnyCall, setting_up, turning, looking, calling, LentBytes, message_in, defined_on, on_table}
use Rattle.demands.specs.Demands.{Demand1, Demand2, Demand3}
use Rattle.rules.specs.Source.{OwnPayload, reply_of, refused_reply, fields_of}
use Rattle.demands.proofs.Demand1.{demand-1}
use Rattle.demands.proofs.OwnMessage.{own-message}
use Rattle.demands.proofs.Demand3.{demand-3}
use Rattle.results.specs.Results.{Gives}
use Rattle.payloads.specs.Payloads.{PayloadPromise}
use Rattle.kept.specs.Functions.{Given, Functions, KeepPromises, answer_with, read_outcome, kernel_of, given_to}
use Rattle.rules.specs.Calls.{set_up, turn, look, system_call}
use Rattle.rules.proofs.Source.{reply-fields, refusal-back}

-- the reply of an answer stands for it
answer_back : (m : Bytes) (a : Answer) → OwnPayload m a → (p : Bytes) → PayloadPromise m (reply_of a) p → answer_with (reply_of a) p ≡ a
unfolding answer_with reply_of fields_of
answer_back m (refused c) h p kept = ap refused (refusal-back c)
answer_back m done h p kept = refl
answer_back m (called a q) h p kept = ap (called a) (kept ∙ sym h)
answer_back m (registered n) h p kept = refl
answer_back m (looked v) h p kept = refl

given_back : {o : Outcome} {g : Given} (m : Bytes) → Gives o g.reply g.table → OwnPayload m o.answer
    → (p : Bytes) → PayloadPromise m g.reply p → read_outcome g p ≡ o
unfolding read_outcome
given_back {o} {g} m h own p kept =
    let answer : answer_with g.reply p ≡ o.answer = rw h.reply (answer_back m o.answer own p (rw h.reply at kept)) in
    rw (answer, h.table)

-- what a call is given are bytes
message-bytes : (c : AnyCall) → LentBytes c → AllBytes (message_in c)
message-bytes (setting_up k a ka) lent = tt
message-bytes (turning k) lent = tt
message-bytes (looking k) lent = tt
message-bytes (calling m code mask) lent = lent.0

module _ (f : Functions) (kept : KeepPromises f) where
  gives : (t : Bytes) (c : AnyCall) → AllBytes t → LentBytes c → Gives (defined_on t c) (given_to f t c).reply (given_to f t c).table
  unfolding defined_on
  gives t (setting_up k a ka) bs lent = kept.set_up_kept t k a ka bs lent.0 lent.1 lent.2
  gives t (turning k) bs lent = kept.turn_kept t k bs lent
  gives t (looking k) bs lent = kept.look_kept t k bs lent
  gives t (calling m code mask) bs lent = kept.system_call_kept t m code mask bs lent.0 lent.1 lent.2

  -- each call's outcome is the one that the rules define
  as-defined : (t : Bytes) (c : AnyCall) → AllBytes t → LentBytes c
      → read_outcome (given_to f t c) (f.payload_gives (message_in c) (given_to f t c).reply) ≡ defined_on t c
  as-defined t c bs lent =
      given_back (message_in c) (gives t c bs lent) (own-message t c) _ (kept.payload_kept (message_in c) _ (message-bytes c lent))

  pub kernel-demand-2 : Demand2 (kernel_of f)
  kernel-demand-2 s c bs lent = ap (on_table s) (as-defined s.table c bs lent)

  pub kernel-demand-1 : Demand1 (kernel_of f)
  kernel-demand-1 = demand-1 (kernel_of f) kernel-demand-2

  pub kernel-demand-3 : Demand3 (kernel_of f)
  kernel-demand-3 = demand-3 (kernel_of f) kernel-demand-2

  -- What a caller reads of a reply are the fields of the kernel's answer.
  pub kernel-fields : (s : State) (c : AnyCall) → StateBytes s → LentBytes c
      → fields_of (given_to f s.table c).reply (message_in c) ≡ fields (kernel_of f s c).answer
  kernel-fields s c bs lent =
      rw (as-defined s.table c bs lent, (gives s.table c bs lent).reply)
      (reply-fields (message_in c) (defined_on s.table c).answer (own-message s.table c))

-- The promises can be kept: by the functions that answer what is defined.
pub defined_functions : Functions
defined_functions =
    record {
      set_up_gives = λ t k a ka. record { reply = reply_of (set_up t k a ka).answer; table = (set_up t k a ka).table };
      turn_gives = λ t k. record { reply = reply_of (turn t k).answer; table = (turn t k).table };
      look_gives = λ t k. record { reply = reply_of (look t k).answer; table = (look t k).table };
      system_call_gives = λ t m code mask. record { reply = reply_of (system_call t m code mask).answer; table = (system_call t m code mask).table };
      payload_gives = λ m reply. (fields_of reply m).payload;
    }

pub promises-kept : KeepPromises defined_functions
unfolding defined_functions
promises-kept =
    record {
      set_up_kept = λ t k a ka bs ks hs kas. record { reply = refl; table = refl };
      turn_kept = λ t k bs ks. record { reply = refl; table = refl };
      look_kept = λ t k bs ks. record { reply = refl; table = refl };
      system_call_kept = λ t m code mask bs ms cs ks. record { reply = refl; table = refl };
      payload_kept = λ m reply ms. refl;
    }
