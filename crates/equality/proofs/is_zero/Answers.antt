-- The invariant is `Zeros`: the limbs before this one are zero. A limb that is not zero decides.
use Rattle.std.proofs.Common.{rules, arith, sym, ◌≡◌, ◌∙◌}
use borrow.Author.Tests.{tests}
use Rattle.std.proofs.lemmas.Iterator.{cases_from_all, YieldsList-from_slice}
use Rattle.equality.proofs.Bytes.{zero-bytes}
use Rattle.equality.proofs.ByLimbs.{zeros-none, zeros-more, zeros-all, limb-not-zero}
use Rattle.equality.proofs.is_zero.Goals as goal

pub returns-then-bytes-lt-LONG_LIMB_BYTES : goal.returns-then-bytes-lt-LONG_LIMB_BYTES
returns-then-bytes-lt-LONG_LIMB_BYTES c =
    zero-bytes c.args.bytes.now c.all.result
    (cases_from_all _ _ _ (λ x. x ≡ 0) (λ x. x ≡ 0 → ⊥) c.all.ensures.ran (YieldsList-from_slice c.args.bytes.now cc)
    (λ x q k. search (rules, tests)) (λ x q k. search (rules, tests)))

pub returns-then-long_limb-ne0 : goal.returns-then-long_limb-ne0
returns-then-long_limb-ne0 c =
    limb-not-zero c.long_limb.ensures (omega arith) c.if-long_limb-ne0.true

pub loop-i-init : goal.loop-i-init
loop-i-init c = zeros-none _

pub returns-then-long_limb-ne0-2 : goal.returns-then-long_limb-ne0-2
returns-then-long_limb-ne0-2 c =
    limb-not-zero c.long_limb-in-loop-i.ensures (omega arith) c.if-long_limb-ne0-2.true

pub loop-i-preserved : goal.loop-i-preserved
loop-i-preserved c =
    zeros-more 8 c.loop-i.invariant (omega arith) (omega arith) (sym c.long_limb-in-loop-i.ensures.is ∙ c.if-long_limb-ne0-2.false)

pub returns : goal.returns
returns c = zeros-all c.loop-i.invariant (omega arith) (omega arith) (sym c.long_limb.ensures.is ∙ c.if-long_limb-ne0.false)
