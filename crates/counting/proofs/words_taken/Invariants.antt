-- The loop's invariant is `CountingWords`: the words that are left are yet to count.
use Rattle.std.specs.Slice.Iter.{chunks_exact_rest, chunks_exact_size}
use Rattle.counting.proofs.Counting.{CountingWords}
use Rattle.counting.proofs.words_taken.Given as goal

abbrev pub invariant-loop-word : goal.invariant-loop-word
invariant-loop-word l =
    CountingWords l.capability (chunks_exact_size l.word-iterator) l.total (chunks_exact_rest l.word-iterator)
