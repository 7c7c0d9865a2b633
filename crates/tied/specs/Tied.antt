-- The demands as contracts of the exported functions: the struct that a host gets back is read by a host that knows what it called,
-- since the struct alone does not say whether zero tests were reported or none. So read, each call is a step of a kernel.
use Rattle.std.specs.Prelude.{◌≡◌, true, false, eqb}
use Rattle.rules.specs.Words.{num}
use Rattle.rules.specs.Capabilities.{call, register, delete, set_entry, write}
use Rattle.rules.specs.Messages.{Named, null, unknown, of_kind, named, type_of}
use Rattle.rules.specs.Answers.{refusals, Answer, refused, done, called, registered, looked, Fields}
use Rattle.rules.specs.Source.{refusal_among}
use Rattle.demands.specs.Kernels.{State, StateBytes, AnyCall, setting_up, turning, looking, calling, LentBytes, message_in, Step, Kernel, defined}
use Rattle.demands.specs.Demands.{ListedAnswer}
use Rattle.replies.specs.declared.Reply.{Reply}
use Rattle.replies.specs.Exports.{exported, read_back}

-- a success by its fields, of a message whose type names this; one of an unknown type never succeeds
unfoldable pub success_of_named : Named → Fields → Answer
success_of_named null f = done
success_of_named unknown f = done
success_of_named (of_kind call) f = called f.address f.payload
success_of_named (of_kind register) f = registered f.tests
success_of_named (of_kind delete) f = done
success_of_named (of_kind set_entry) f = done
success_of_named (of_kind write) f = done

unfoldable pub success_to : AnyCall → Fields → Answer
success_to (setting_up k a ka) f = done
success_to (turning k) f = done
success_to (looking k) f = looked f.value
success_to (calling m code mask) f = success_of_named (named (type_of m)) f

-- the answer to a call, by its fields
unfoldable pub answer_to : AnyCall → Fields → Answer
answer_to c f = elim (eqb f.flag 0) [ true ↦ refused (refusal_among refusals (num f.code)) | false ↦ success_to c f ]

-- the step that the struct r and the state after are, to a host that made the call c
unfoldable pub step_read : AnyCall → Reply → (after : State) → Step
step_read c r after = record { answer = answer_to c (read_back (message_in c) r); after = after }

-- THE CONTRACT of every function of this crate: for what was lent,
pub record Demanded (s : State) (c : AnyCall) (r : Reply) (after : State) : Type 0 where
  -- the struct is that of the defined answer, field by field, so a host reads no more and no less than the answer
  pub exact : r ≡ exported (defined s c).answer
  -- the struct read back and the state after are those that the rules define (demand 2)
  pub same : step_read c r after ≡ defined s c
  -- and are a listed answer (demand 1)
  pub listed : ListedAnswer s c (step_read c r after)

-- what a call gives back: the struct, and the state after
pub record Returned : Type 0 where
  pub reply : Reply
  pub after : State

-- Functions that keep these contracts, and the kernel that they are to such a host: it meets all three demands.
abbrev pub KeepDemanded : (State → AnyCall → Returned) → Type 0
KeepDemanded f = (s : State) (c : AnyCall) → StateBytes s → LentBytes c → Demanded s c (f s c).reply (f s c).after

abbrev pub exported_kernel : (State → AnyCall → Returned) → Kernel
exported_kernel f s c = step_read c (f s c).reply (f s c).after
