-- The loop's invariant is `Written`: what is written for the types before the index. After the last type all is computed.
use Rattle.std.proofs.Common.{arith, refl}
use Rattle.founding.proofs.FirstSeries.{written-none, written-within, written-more, written-all, next_at, bytes_after}
use Rattle.rules.specs.Source.{words_of}
use Rattle.rules.proofs.Computing.{computing}
use Rattle.founding.specs.Founding.{first_series}
use Rattle.founding.proofs.first_series.Goals as goal

pub loop-kind-init : goal.loop-kind-init
loop-kind-init c = written-none

pub overflow_add-d-in-loop-kind : goal.overflow_add-d-in-loop-kind
overflow_add-d-in-loop-kind c = omega (arith, written-within c.loop-kind.invariant c.words-words.ensures.count (omega arith))

pub bounds-d-at : goal.bounds-d-at
bounds-d-at c = omega (arith, written-within c.loop-kind.invariant c.words-words.ensures.count (omega arith))

pub overflow_add-d-in-loop-kind-2 : goal.overflow_add-d-in-loop-kind-2
overflow_add-d-in-loop-kind-2 c = omega (arith, written-within c.loop-kind.invariant c.words-words.ensures.count (omega arith))

pub bounds-d-at-in-loop-kind : goal.bounds-d-at-in-loop-kind
bounds-d-at-in-loop-kind c = omega (arith, written-within c.loop-kind.invariant c.words-words.ensures.count (omega arith))

pub overflow_add-at-in-loop-kind : goal.overflow_add-at-in-loop-kind
overflow_add-at-in-loop-kind c = omega (arith, written-within c.loop-kind.invariant c.words-words.ensures.count (omega arith))

pub loop-kind-preserved : goal.loop-kind-preserved
loop-kind-preserved c = written-more c.loop-kind.invariant c.words-words.ensures.count

pub returns : goal.returns
unfolding computing words_of next_at bytes_after first_series
returns c =
    let all = written-all c.loop-kind.invariant c.loop-kind.auto.kind-index-end (omega arith) in
    let filled = c.fill.ensures.after (λ y e. e) in
    rw (filled, all) refl
