-- Each return is a place in the row.
-- The returns in order: 66 ed; 66 ef; the rest of the row.
use Rattle.std.proofs.Common.{refl, rules, ap, ◌≡◌, ◌∙◌, Err}
use Rattle.std.proofs.lemmas.Result.{err_from_is_err_and}
use Rattle.rules.specs.Answers.{code_number}
use Rattle.kernel.proofs.FirstChecks.{unsound-refused, is-sound, sound, is-form, is-count}
use Rattle.kernel.proofs.TurnRow.{turn-wrong, turn-unsound, turn-sound}
use Rattle.kernel.proofs.turn.Goals as goal

pub returns-in_default : goal.returns-in_default
unfolding code_number
returns-in_default c = turn-wrong c.args.t.now c.args.running.now (search rules)

pub invariant_of-turn_to : goal.invariant_of-turn_to
invariant_of-turn_to c =
    let t = c.args.t.now in
    record { form = is-form t c.in_ok-used.ensures refl; count = is-count t c.in_ok-used.ensures refl }

pub turn_to-requires : goal.turn_to-requires
turn_to-requires c = sound c.args.t.now c.in_ok-used.ensures refl

pub returns-in_err-used : goal.returns-in_err-used
returns-in_err-used c =
    let p = err_from_is_err_and c.from_residual.result c.from_residual.ensures.1 in
    unsound-refused c.args.t.now c.in_err-used.ensures refl (p.1 ∙ ap Err p.2)
    (turn-unsound c.args.t.now c.args.running.now (search rules))

pub returns : goal.returns
returns c =
    let t = c.args.t.now in
    let key : c.in-Some.running.now ≡ c.args.running.now = search rules in
    let all = turn-sound t c.args.running.now (search rules) (is-sound t c.in_ok-used.ensures refl) (rw key at c.turn_to.ensures.gives) in
    search rules
