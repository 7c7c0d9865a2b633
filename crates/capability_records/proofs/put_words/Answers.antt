-- The loop's invariant is `StoringWords`: the words from word k on are left to store.
use Rattle.std.proofs.Common.{arith}
use Rattle.capability_records.proofs.CapabilityWords.{words-start, words-room, words-turn, words-end}
use Rattle.capability_records.proofs.put_words.Goals as goal

pub loop-k-init : goal.loop-k-init
loop-k-init c = words-start c.requires c.words-k-end.ensures.count

pub put-requires : goal.put-requires
put-requires c = words-room c.loop-k.invariant (omega arith) c.word_slot-slot.ensures c.word_at-word.ensures

pub loop-k-preserved : goal.loop-k-preserved
loop-k-preserved c = words-turn c.loop-k.invariant (omega arith) c.word_slot-slot.ensures c.word_at-word.ensures c.put.ensures

pub returns : goal.returns
returns c = words-end c.loop-k.invariant (omega arith)
