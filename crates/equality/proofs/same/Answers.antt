-- The invariant is `Agree`: the limbs before this one are the same. Limbs that differ decide, and at the end the last ones.
use Rattle.std.proofs.Common.{rules, arith, sym}
use Rattle.laws.proofs.Numerals.{all-bytes}
use Rattle.equality.proofs.Bytes.{same-bytes}
use Rattle.equality.proofs.ByLimbs.{agree-none, agree-more, agree-all, limbs-differ}
use Rattle.equality.proofs.same.Goals as goal

pub returns-then-a-lt-LONG_LIMB_BYTES : goal.returns-then-a-lt-LONG_LIMB_BYTES
returns-then-a-lt-LONG_LIMB_BYTES c =
    same-bytes c.args.a.now c.args.b.now
    (all-bytes c.args.a.now (λ k. search rules))
    (all-bytes c.args.b.now (λ k. search rules))
    c.requires c.eq.ensures

pub loop-i-init : goal.loop-i-init
loop-i-init c =
    agree-none
    (all-bytes c.args.a.now (λ k. search rules))
    (all-bytes c.args.b.now (λ k. search rules))
    (sym c.requires) (omega arith)

pub returns-then-long_limb : goal.returns-then-long_limb
returns-then-long_limb c =
    limbs-differ c.loop-i.invariant (omega arith)
    c.long_limb.ensures c.long_limb-in-loop-i.ensures c.if-long_limb.true

pub loop-i-preserved : goal.loop-i-preserved
loop-i-preserved c =
    agree-more c.loop-i.invariant (omega arith) (omega arith)
    c.long_limb.ensures c.long_limb-in-loop-i.ensures c.if-long_limb.false

pub returns : goal.returns
returns c = agree-all c.loop-i.invariant (omega arith) c.long_limb-2.ensures c.long_limb-3.ensures
