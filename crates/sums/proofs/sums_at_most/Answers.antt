-- The invariant is `Sums`: what is left to compare are the limbs before this one, with the carry of this one and those after it.
use Rattle.std.proofs.Common.{rules, arith}
use Rattle.limbs.proofs.Limbs.{a_word}
use Rattle.sums.proofs.Sums.{sums-all, sums-less}
use Rattle.sums.proofs.sums_at_most.Goals as goal

pub loop-i-init : goal.loop-i-init
loop-i-init c =
    sums-all
    (a_word (search rules) (λ k. search rules))
    (a_word (search rules) (λ k. search rules))
    (a_word (search rules) (λ k. search rules))
    (a_word (search rules) (λ k. search rules))

pub loop-i-preserved : goal.loop-i-preserved
loop-i-preserved c =
    sums-less c.loop-i.invariant (omega arith)
    c.limb.ensures c.limb-in-loop-i.ensures
    c.limb-in-loop-i-2.ensures c.limb-in-loop-i-3.ensures
    (search rules) (search rules)
