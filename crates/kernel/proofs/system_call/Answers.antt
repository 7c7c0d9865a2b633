-- Each return is a place in the row.
-- The returns in order: 66 ed; 66 e0; 66 ea; 66 ef; the message's row.
use Rattle.std.proofs.Common.{refl, rules, ap, ◌≡◌, ◌∙◌, Err}
use Rattle.std.proofs.lemmas.Result.{err_from_is_err_and}
use Rattle.rules.specs.Answers.{code_number}
use Rattle.kernel.proofs.FirstChecks.{unsound-refused, is-sound, sound, is-form, is-count}
use Rattle.kernel.proofs.SystemRow.{mask-wrong, call-unsound, call-empty, call-too-long, call-message}
use Rattle.kernel.proofs.system_call.Goals as goal

pub returns-in_default : goal.returns-in_default
unfolding code_number
returns-in_default c =
    mask-wrong c.args.t.now c.args.message.now c.args.code.now c.args.mask.now (search rules)

pub returns-then-is_empty : goal.returns-then-is_empty
unfolding code_number
returns-then-is_empty c =
    call-empty c.args.t.now c.args.message.now c.args.code.now c.args.mask.now (search rules)
    (is-sound c.args.t.now c.in_ok-used.ensures refl) (search rules)

pub returns-then-message-gt-GREATEST_MESSAGE : goal.returns-then-message-gt-GREATEST_MESSAGE
unfolding code_number
returns-then-message-gt-GREATEST_MESSAGE c =
    call-too-long c.args.t.now c.args.message.now c.args.code.now c.args.mask.now (search rules)
    (is-sound c.args.t.now c.in_ok-used.ensures refl) (search rules) (search rules)

pub invariant_of-of_message : goal.invariant_of-of_message
invariant_of-of_message c =
    let t = c.args.t.now in
    record { form = is-form t c.in_ok-used.ensures refl; count = is-count t c.in_ok-used.ensures refl }

pub of_message-requires-clause-sound_table : goal.of_message-requires-clause-sound_table
of_message-requires-clause-sound_table c = sound c.args.t.now c.in_ok-used.ensures refl

pub returns-in_err-used : goal.returns-in_err-used
returns-in_err-used c =
    let p = err_from_is_err_and c.from_residual.result c.from_residual.ensures.1 in
    unsound-refused c.args.t.now c.in_err-used.ensures refl (p.1 ∙ ap Err p.2)
    (call-unsound c.args.t.now c.args.message.now c.args.code.now c.args.mask.now (search rules))

pub returns : goal.returns
returns c =
    let mask : c.in-Some.mask.now ≡ c.args.mask.now = search rules in
    let all =
    call-message c.args.t.now c.args.message.now c.args.code.now c.args.mask.now (search rules)
    (is-sound c.args.t.now c.in_ok-used.ensures refl) (search rules) (search rules) (rw mask at c.of_message.ensures.gives) in
    search rules
