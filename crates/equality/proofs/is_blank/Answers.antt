-- Where the bytes behind the blocks are zero, the blocks decide; they are judged from the last to the first.
use Rattle.std.proofs.Common.{rules, arith, sym, ◌≡◌, ◌∙◌, true, false, eqb, replicate, length, ap, ◌*◌, ◌/◌}
use borrow.Author.Tests.{tests, eqb-true, eqb-false}
use Rattle.std.specs.Cmp.Lexicographic.{pointwise}
use Rattle.std.proofs.lemmas.Iterator.{cases_from_all}
use Rattle.std.proofs.lemmas.Iterator.Adapters.{YieldsList-from_rev_slice}
use Rattle.rules.specs.Words.{num}
use Rattle.laws.proofs.Numerals.{all-bytes}
use Rattle.equality.proofs.Bytes.{blocks, blocks-decide}
use Rattle.equality.proofs.ByLimbs.{rest-not-zero}
use Rattle.equality.proofs.is_blank.Goals as goal

pub returns-then-is_zero : goal.returns-then-is_zero
returns-then-is_zero c =
    let bs = c.args.bytes.now in
    blocks-decide bs c.all.result (all-bytes bs (λ k. search rules))
    (cases_from_all _ _ _ (λ b. pointwise eqb b (replicate 64 0) ≡ true) (λ b. pointwise eqb b (replicate 64 0) ≡ false) c.all.ensures.ran
    (YieldsList-from_rev_slice (blocks bs) cc) (λ x q k. search (rules, tests)) (λ x q k. search (rules, tests)))
    (ap num (sym c.as_chunks.ensures.back) ∙ eqb-true _ 0 (sym c.is_zero.ensures ∙ c.if-is_zero.true))

pub returns-else-is_zero : goal.returns-else-is_zero
returns-else-is_zero c =
    let bs = c.args.bytes.now in
    c.if-is_zero.false ∙ rest-not-zero bs (length bs / 64 * 64) (omega arith)
    (λ z. eqb-false _ 0 (sym c.is_zero.ensures ∙ c.if-is_zero.false) (ap num c.as_chunks.ensures.back ∙ z))
