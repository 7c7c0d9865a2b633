-- Demand 1 rejects wrong kernels too: of each one call is computed, whose answer is not among those listed for it, or which is
-- refused and leaves another state.
use mathlib.Core.Path.{◌≡◌, refl, sym, ap, ◌∙◌}
use mathlib.Core.Bool.{true≢false}
use Rattle.rules.specs.Words.{same_bytes, OneOf}
use Rattle.rules.specs.Answers.{x33, refused, done, succeeds}
use Rattle.demands.specs.Kernels.{State, state_of, AnyCall, looking, Step}
use Rattle.demands.specs.Demands.{MayReport, codes_of, ListedAnswer, success, refusal, Demand1}
use Rattle.demands.proofs.Demand1.{reports-succeed, not-among}
use Rattle.stand_ins.specs.StandIns.{refusing, lying, withholding}
use Rattle.demands.proofs.Computing.{computing}
use Rattle.demands.specs.Worked.{sending}
use Rattle.stand_ins.proofs.Lent.{empty, key, address, kernel_address, the_set_up, start, permitted, slot_zero, empty-bytes, start-bytes, set-up-lent, permitted-bytes, slot-zero-bytes}

-- a step that is refused with 33 is listed only if 33 is among the call's codes, and the state is as it was
with-33 : {s : State} {c : AnyCall} {step : Step} → step.answer ≡ refused x33 → ListedAnswer s c step → OneOf x33 (codes_of c) × (step.after ≡ s)
unfolding computing
with-33 e (success reported) = absurd (true≢false (sym (reports-succeed reported) ∙ ap succeeds e))
with-33 {c = c} e (refusal code listed answer after) =
    let same : code ≡ x33 = cc in
    (rw (← same) listed, after)

-- It answers a set-up with 33.
pub refusing-fails-demand-1 : Demand1 refusing → ⊥
unfolding computing
refusing-fails-demand-1 d = not-among x33 (codes_of the_set_up) refl (with-33 refl (d (state_of empty) the_set_up empty-bytes set-up-lent)).0

-- It answers a Register with 33, and stores.
pub lying-fails-demand-1 : Demand1 lying → ⊥
unfolding computing start empty key address kernel_address permitted
lying-fails-demand-1 d =
    true≢false (
    sym (ap (λ (s : State). same_bytes s.table start) (with-33 refl (d (state_of start) (sending permitted) start-bytes permitted-bytes)).1))

-- It answers a Look with no value.
pub withholding-fails-demand-1 : Demand1 withholding → ⊥
unfolding computing
withholding-fails-demand-1 d = no_value (d (state_of start) (looking slot_zero) start-bytes slot-zero-bytes)
  where
    none-reported : MayReport (looking slot_zero) done → ⊥
    none-reported = elim [ ]

    no_value : ListedAnswer (state_of start) (looking slot_zero) (withholding (state_of start) (looking slot_zero)) → ⊥
    no_value (success reported) = none-reported reported
    no_value (refusal code listed answer after) = true≢false (ap succeeds answer)
