-- The record form first, then the records.
use Rattle.std.proofs.Common.{refl}
use Rattle.rules.specs.Answers.{code_number}
use Rattle.table.proofs.Forms.{used-form, used-count}
use Rattle.soundness.proofs.Whole.{form-bad, store-unsound, store-sound}
use Rattle.soundness.proofs.sound.Goals as goal

pub invariant_of-store_sound : goal.invariant_of-store_sound
invariant_of-store_sound c =
    record { form = used-form c.args.t.now c.in-Some.ensures refl; count = used-count c.args.t.now c.in-Some.ensures refl }

pub returns-then-store_sound : goal.returns-then-store_sound
returns-then-store_sound c =
    store-sound c.args.t.now c.in-Some.ensures refl c.store_sound.ensures
    c.if-store_sound.true

pub returns-else-store_sound : goal.returns-else-store_sound
unfolding code_number
returns-else-store_sound c =
    store-unsound c.args.t.now c.in-Some.ensures refl c.store_sound.ensures
    c.if-store_sound.false

pub returns-in_default : goal.returns-in_default
unfolding code_number
returns-in_default c =
    form-bad c.args.t.now c.form_of.ensures c.in_default.is
