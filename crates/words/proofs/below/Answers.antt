-- The invariant is `Agree`: the words agree before this limb. The first limbs that differ decide, and at the end the words are equal.
use Rattle.std.proofs.Common.{arith, rules}
use Rattle.limbs.proofs.Limbs.{a_word}
use Rattle.words.proofs.Compares.{agree-none, agree-more, first-differs}
use Rattle.words.proofs.below.Goals as goal

pub loop-i-init : goal.loop-i-init
loop-i-init c =
    agree-none
    (a_word (search rules) (λ k. search rules))
    (a_word (search rules) (λ k. search rules))

pub returns-then-x-y : goal.returns-then-x-y
returns-then-x-y c =
    first-differs c.loop-i.invariant (search rules)
    c.long_limb-x.ensures c.long_limb-y.ensures c.if-x-y.true

pub loop-i-preserved : goal.loop-i-preserved
loop-i-preserved c =
    agree-more c.loop-i.invariant (search rules)
    c.long_limb-x.ensures c.long_limb-y.ensures (omega arith) c.if-x-y.false
