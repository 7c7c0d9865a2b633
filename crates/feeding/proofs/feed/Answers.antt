-- The invariant is `Feeding`: what has been answered so far is where `answering` stands.
use Rattle.std.proofs.Common.{sym, ◌∙◌, arith, rules}
use Rattle.feeding.proofs.Ends.{index-some, index-none}
use Rattle.feeding.proofs.Rounds.{feeding-none, feeding-more, feeding-full, feeding-kept}
use Rattle.feeding.proofs.feed.Goals as goal

pub loop-length-init : goal.loop-length-init
loop-length-init c = feeding-none _ _ _ _

pub returns-in_default : goal.returns-in_default
returns-in_default c =
    feeding-kept c.loop-length.invariant (search rules) (index-none c.args.piece.now c.loop-length.at (sym c.line_length.ensures ∙ c.in_default.is)) _ c.keep.ensures

pub loop-length-preserved : goal.loop-length-preserved
loop-length-preserved c =
    let end = index-some c.args.piece.now c.loop-length.at c.in-Some.length (sym c.line_length.ensures ∙ c.in-Some.is) in
    feeding-more c.loop-length.invariant _ (search rules) (omega arith) (omega arith) (search rules) c.answer_rest.ensures

pub returns : goal.returns
returns c = feeding-full c.loop-length.invariant (search rules)
