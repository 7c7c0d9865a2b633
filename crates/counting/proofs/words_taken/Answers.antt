-- The loop's invariant is `CountingWords`: the words that are left are yet to count.
use Rattle.counting.proofs.Counting.{counted-word, passed-word, counted_words}
use Rattle.counting.proofs.words_taken.Goals as goal

pub loop-word-preserved-then-not-is_zero : goal.loop-word-preserved-then-not-is_zero
loop-word-preserved-then-not-is_zero c =
    let next = c.in-Some.ensures.steps in
    counted-word c.loop-word.invariant _ _ next.1.0 next.1.1 next.0 c.if-not-is_zero.ensures

pub loop-word-preserved : goal.loop-word-preserved
loop-word-preserved c =
    let next = c.in-Some.ensures.steps in
    passed-word c.loop-word.invariant _ _ next.1.0 next.1.1 next.0 c.if-not-is_zero.ensures

pub returns : goal.returns
returns c = counted_words c.loop-word.invariant c.in-None.ensures.steps.1.0
