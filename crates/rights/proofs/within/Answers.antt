-- Each type asks its own comparison: the words that come first are the two capabilities.
use Rattle.std.proofs.Common.{rules, arith}
use Rattle.rights.proofs.ByKind.{prefixed, has_first, has-second, prefix-fits, entry-within, range-within, prefix-within}
use Rattle.rights.proofs.within.Goals as goal

pub returns-in-SET_ENTRY : goal.returns-in-SET_ENTRY
returns-in-SET_ENTRY c = λ k p. entry-within k p (search rules) _ _

pub word_at-b_first-requires : goal.word_at-b_first-requires
word_at-b_first-requires c = let need = c.requires in omega (arith, has-second need.kind need.names (search rules) need.size_b)

pub word_at-b_second-requires : goal.word_at-b_second-requires
word_at-b_second-requires c = let need = c.requires in has-second need.kind need.names (search rules) need.size_b

pub word_at-a_first-requires : goal.word_at-a_first-requires
word_at-a_first-requires c = let need = c.requires in omega (arith, has-second need.kind need.names (search rules) need.size_a)

pub word_at-a_second-requires : goal.word_at-a_second-requires
word_at-a_second-requires c = let need = c.requires in has-second need.kind need.names (search rules) need.size_a

pub word_at-b_word-requires : goal.word_at-b_word-requires
word_at-b_word-requires c = let need = c.requires in has_first need.kind need.names (search rules) need.size_b

pub word_at-a_word-requires : goal.word_at-a_word-requires
word_at-a_word-requires c = let need = c.requires in has_first need.kind need.names (search rules) need.size_a

pub within_prefix-requires : goal.within_prefix-requires
within_prefix-requires c =
    let need = c.requires in
    prefix-fits (prefixed need.kind need.names (search rules) (search rules)) c.word_at-a_word.ensures need.in_range

pub returns-in-WRITE : goal.returns-in-WRITE
returns-in-WRITE c = λ k p.
    range-within k p (search rules) c.word_at-b_first.ensures c.word_at-b_second.ensures
    c.word_at-a_first.ensures c.word_at-a_second.ensures c.within_range.ensures

pub returns-in_default : goal.returns-in_default
returns-in_default c = λ k p.
    prefix-within k p (search rules) (search rules) c.word_at-b_word.ensures c.word_at-a_word.ensures c.within_prefix.ensures
