-- The functions of the crate `kernel` as a kernel in the sense of the demands: what each gives back is read as an answer and a table.
use Rattle.std.specs.Prelude.{Ok, Err}
use Rattle.rules.specs.Words.{Bytes, AllBytes}
use Rattle.rules.specs.Answers.{refusals, Answer, refused, done, called, registered, looked, Outcome}
use Rattle.demands.specs.Kernels.{AnyCall, setting_up, turning, looking, calling, message_in, on_table, Kernel}
use Rattle.rules.specs.Source.{refusal_among, Reply}
use Rattle.rules.specs.declared.Success.TheVariants.{Done, Called, Registered, Looked}
use Rattle.kernel.specs.Promises.{SetUpPromise, TurnPromise, LookPromise, SystemCallPromise}
use Rattle.payloads.specs.Payloads.{PayloadPromise}

-- what a call gives back: the reply, and every byte of the table after
pub record Given : Type 0 where
  pub reply : Reply
  pub table : Bytes

-- five functions, from what they are lent to what they give back; `payload` gives a part of the message
pub record Functions : Type 0 where
  pub set_up_gives : (table key address kernel_address : Bytes) → Given
  pub turn_gives : (table key : Bytes) → Given
  pub look_gives : (table slot_key : Bytes) → Given
  pub system_call_gives : (table message code mask : Bytes) → Given
  pub payload_gives : (message : Bytes) → Reply → Bytes

-- They keep the promises of `set_up`, `turn`, `look`, `system_call` and `payload`, which are lent bytes.
pub record KeepPromises (f : Functions) : Type 0 where
  pub set_up_kept : (t k a ka : Bytes) → AllBytes t → AllBytes k → AllBytes a → AllBytes ka
      → SetUpPromise t k a ka (f.set_up_gives t k a ka).reply (f.set_up_gives t k a ka).table
  pub turn_kept : (t k : Bytes) → AllBytes t → AllBytes k → TurnPromise t k (f.turn_gives t k).reply (f.turn_gives t k).table
  pub look_kept : (t k : Bytes) → AllBytes t → AllBytes k → LookPromise t k (f.look_gives t k).reply (f.look_gives t k).table
  pub system_call_kept : (t m code mask : Bytes) → AllBytes t → AllBytes m → AllBytes code → AllBytes mask
      → SystemCallPromise t m code mask (f.system_call_gives t m code mask).reply (f.system_call_gives t m code mask).table
  pub payload_kept : (m : Bytes) (reply : Reply) → AllBytes m → PayloadPromise m reply (f.payload_gives m reply)

-- the answer that a reply stands for, with the payload that belongs to it
unfoldable pub answer_with : Reply → (payload : Bytes) → Answer
answer_with (Err c) p = refused (refusal_among refusals c.0)
answer_with (Ok Done) p = done
answer_with (Ok (Called a)) p = called a p
answer_with (Ok (Registered n)) p = registered n
answer_with (Ok (Looked v)) p = looked v

unfoldable pub read_outcome : Given → (payload : Bytes) → Outcome
read_outcome g p = record { answer = answer_with g.reply p; table = g.table }

-- what the functions give back to a call
abbrev pub given_to : Functions → Bytes → AnyCall → Given
given_to f t (setting_up k a ka) = f.set_up_gives t k a ka
given_to f t (turning k) = f.turn_gives t k
given_to f t (looking k) = f.look_gives t k
given_to f t (calling m code mask) = f.system_call_gives t m code mask

-- the kernel that the functions are: the payload is what `payload` gives of the message; only a system call has one
abbrev pub kernel_of : Functions → Kernel
kernel_of f s c =
    on_table s (read_outcome (given_to f s.table c) (f.payload_gives (message_in c) (given_to f s.table c).reply))
