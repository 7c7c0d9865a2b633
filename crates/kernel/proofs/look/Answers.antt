-- Each return is a place in the row.
-- The returns in order: 66 ed; 66 ef; the value.
use Rattle.std.proofs.Common.{refl, rules, ap, ◌≡◌, ◌∙◌, Err}
use Rattle.std.proofs.lemmas.Result.{err_from_is_err_and}
use Rattle.rules.specs.Answers.{code_number}
use Rattle.kernel.proofs.FirstChecks.{unsound-refused, is-sound, is-form, is-count}
use Rattle.kernel.proofs.LookRow.{look-wrong, look-unsound, look-done}
use Rattle.kernel.proofs.look.Goals as goal

pub returns-in_default : goal.returns-in_default
unfolding code_number
returns-in_default c = look-wrong c.args.t.now c.args.slot.now (search rules)

pub invariant_of-look : goal.invariant_of-look
invariant_of-look c =
    let t = c.args.t.now in
    record { form = is-form t c.in_ok-used.ensures refl; count = is-count t c.in_ok-used.ensures refl }

pub returns-in_err-used : goal.returns-in_err-used
returns-in_err-used c =
    let p = err_from_is_err_and c.from_residual.result c.from_residual.ensures.1 in
    unsound-refused c.args.t.now c.in_err-used.ensures refl (p.1 ∙ ap Err p.2)
    (look-unsound c.args.t.now c.args.slot.now (search rules))

pub returns : goal.returns
returns c =
    let t = c.args.t.now in
    let key : c.in-Some.slot.now ≡ c.args.slot.now = search rules in
    look-done t c.args.slot.now (search rules) (is-sound t c.in_ok-used.ensures refl) (rw key at c.look.ensures)
