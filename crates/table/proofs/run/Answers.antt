-- The invariant is `Run`: the records passed are occupied, and whether the keys ascend is still whether those from the last of them
-- on do. A record whose value is zero ends them, and a key that is not above the one before it decides.
use Rattle.std.proofs.Common.{ℕ, sym, ap, ◌∙◌, eqb, rules}
use Rattle.table.proofs.Forms.{run-starts, run-stops, run-turns, run-falls, run-ends-full}
use Rattle.table.proofs.run.Goals as goal

pub loop-i-init : goal.loop-i-init
loop-i-init c = run-starts c.args.t.now

pub returns-then-is_zero_word : goal.returns-then-is_zero_word
returns-then-is_zero_word c =
    run-stops c.loop-i.invariant (search rules)
    (ap (λ (x : ℕ). eqb x 0) (sym c.word_at.ensures.number) ∙ sym c.is_zero_word.ensures ∙ c.if-is_zero_word.true)

pub loop-i-preserved : goal.loop-i-preserved
loop-i-preserved c =
    run-turns c.loop-i.invariant (search rules)
    (ap (λ (x : ℕ). eqb x 0) (sym c.word_at.ensures.number) ∙ sym c.is_zero_word.ensures ∙ c.if-is_zero_word.false)
    (sym c.climbs.ensures ∙ c.if-not-climbs.false)

pub returns-then-not-climbs : goal.returns-then-not-climbs
returns-then-not-climbs c =
    run-falls c.loop-i.invariant (search rules)
    (ap (λ (x : ℕ). eqb x 0) (sym c.word_at.ensures.number) ∙ sym c.is_zero_word.ensures ∙ c.if-is_zero_word.false)
    (sym c.climbs.ensures ∙ c.if-not-climbs.true)

pub returns : goal.returns
returns c = run-ends-full c.loop-i.invariant (search rules)
