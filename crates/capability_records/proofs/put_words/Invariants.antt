-- The loop's invariant is `StoringWords`: the words from word k on are left to store.
use Rattle.rules.specs.Words.{num}
use Rattle.capability_records.proofs.CapabilityWords.{StoringWords}
use Rattle.capability_records.proofs.put_words.Given as goal

abbrev pub invariant-loop-k : goal.invariant-loop-k
invariant-loop-k l = StoringWords l.initial.table l.table (num l.procedure) l.kind.0 l.i l.capability l.k-end l.k
