-- Each type's entry of the array is its count in the rules, which antt computes. A number that is none of the five names no type.
use Rattle.std.proofs.Common.{rules, ◌≡◌}
use Rattle.rules.specs.Capabilities.{number, kind_among, kind_of, word_count}
use Rattle.rules.specs.Source.{words_of}
use Rattle.rules.proofs.Source.{has_words, has-none}
use Rattle.rules.proofs.Kind.words.Goals as goal

pub returns-in-CALL : goal.returns-in-CALL
unfolding words_of kind_of kind_among number word_count
returns-in-CALL c = let at : c.from.result ≡ 3 = search rules in rw at (has_words 3 (search rules))

pub returns-in-REGISTER : goal.returns-in-REGISTER
unfolding words_of kind_of kind_among number word_count
returns-in-REGISTER c = let at : c.from-in-REGISTER.result ≡ 4 = search rules in rw at (has_words 4 (search rules))

pub returns-in-DELETE : goal.returns-in-DELETE
unfolding words_of kind_of kind_among number word_count
returns-in-DELETE c = let at : c.from-in-DELETE.result ≡ 5 = search rules in rw at (has_words 5 (search rules))

pub returns-in-SET_ENTRY : goal.returns-in-SET_ENTRY
unfolding words_of kind_of kind_among number word_count
returns-in-SET_ENTRY c = let at : c.from-in-SET_ENTRY.result ≡ 6 = search rules in rw at (has_words 6 (search rules))

pub returns-in-WRITE : goal.returns-in-WRITE
unfolding words_of kind_of kind_among number word_count
returns-in-WRITE c = let at : c.from-in-WRITE.result ≡ 7 = search rules in rw at (has_words 7 (search rules))

pub returns-in_default : goal.returns-in_default
returns-in_default c = has-none _ (search rules) (search rules) (search rules) (search rules) (search rules)
