-- An exported struct, read back, is the defined step: an answer is listed for its call, so a host that knows its call tells it by its
-- fields. Functions that keep the contracts are then a kernel that meets demand 2, and what meets that meets the other two.
use mathlib.Core.Path.{◌≡◌, refl, sym, ap, ◌∙◌, subst}
use mathlib.Core.Bool.{true, false}
use lib.Dec.{eqb}
use Rattle.rules.specs.Words.{Bytes, num}
use Rattle.rules.specs.Messages.{Named}
use Rattle.rules.specs.Answers.{Refusal, refusals, code_number, code_bytes, Answer, refused, fields}
use Rattle.rules.specs.Source.{refusal_among}
use Rattle.rules.proofs.Source.{code-bytes-back, refusal-back}
use Rattle.demands.specs.Kernels.{State, state_of, with_table, AnyCall, Step, defined_on, defined}
use Rattle.demands.specs.Demands.{Reports, of_null, of_call, of_register, of_delete, of_set_entry, of_write, MayReport, of_set_up, of_turn, of_look, of_message, ListedAnswer, success, refusal, Demand1, Demand2, Demand3}
use Rattle.demands.proofs.Demand1.{defined-listed}
use Rattle.demands.proofs.Demand3.{demand-3}
use Rattle.replies.specs.declared.Reply.{Reply}
use Rattle.replies.specs.Exports.{exported, Exports}
use Rattle.tied.specs.Tied.{success_of_named, success_to, answer_to, step_read, Demanded, Returned, KeepDemanded, exported_kernel}
use Rattle.tied.proofs.ReadBack.{call-read}

-- a code is found by its bytes
found-by-bytes : (c : Refusal) → refusal_among refusals (num (code_bytes (code_number c))) ≡ c
found-by-bytes c = ap (refusal_among refusals) (code-bytes-back (code_number c)) ∙ refusal-back c

-- the answer to a call is known by its fields
Known : AnyCall → Answer → Type 0
Known c a = answer_to c (fields a) ≡ a

refused-known : (c : AnyCall) (code : Refusal) → Known c (refused code)
unfolding Known answer_to fields
refused-known c code = ap refused (found-by-bytes code)

reported-known : {c : AnyCall} {a : Answer} → MayReport c a → Known c a
unfolding Known answer_to success_to success_of_named fields
reported-known of_set_up = refl
reported-known of_turn = refl
reported-known (of_look value) = refl
reported-known (of_message some r) = go r
  where
    go : {n : Named} {a : Answer} → Reports n a
        → elim (eqb (fields a).flag 0) [ true ↦ refused (refusal_among refusals (num (fields a).code)) | false ↦ success_of_named n (fields a) ] ≡ a
    go of_null = refl
    go (of_call address payload) = refl
    go (of_register tests) = refl
    go of_delete = refl
    go of_set_entry = refl
    go of_write = refl

listed-known : {s : State} {c : AnyCall} {step : Step} → ListedAnswer s c step → Known c step.answer
listed-known (success reported) = reported-known reported
listed-known {c = c} (refusal code listed answer after) = rw answer (refused-known c code)

-- WHAT IS EXPORTED KEEPS THE CONTRACT.
read-defined : (t : Bytes) (c : AnyCall) {r : Reply} {after : Bytes} → Exports (defined_on t c) r after
    → step_read c r (state_of after) ≡ defined (state_of t) c
unfolding step_read Known
read-defined t c e = rw (call-read t c e, listed-known (defined-listed (state_of t) c), e.table)

pub demanded : (t : Bytes) (c : AnyCall) {r : Reply} {after : Bytes} → Exports (defined_on t c) r after → Demanded (state_of t) c r (state_of after)
demanded t c e =
    let same = read-defined t c e in
    record { exact = e.reply; same = same; listed = subst (ListedAnswer (state_of t) c) (sym same) (defined-listed (state_of t) c) }

-- FUNCTIONS THAT KEEP THE CONTRACTS meet the demands.
module _ (f : State → AnyCall → Returned) (kept : KeepDemanded f) where
  pub exports-demand-2 : Demand2 (exported_kernel f)
  exports-demand-2 s c bs lent = (kept s c bs lent).same

  pub exports-demand-1 : Demand1 (exported_kernel f)
  exports-demand-1 s c bs lent = (kept s c bs lent).listed

  pub exports-demand-3 : Demand3 (exported_kernel f)
  exports-demand-3 = demand-3 (exported_kernel f) exports-demand-2

-- The contracts can be kept: by the functions that answer what is defined.
pub defined_exports : State → AnyCall → Returned
defined_exports s c = record { reply = exported (defined_on s.table c).answer; after = with_table s (defined_on s.table c).table }

pub exports-kept : KeepDemanded defined_exports
unfolding defined_exports
exports-kept s c bs lent = demanded s.table c (record { reply = refl; table = refl })
