-- With no leading bytes the key's number is the whole word's.
use Rattle.std.proofs.Common.{◌∙◌}
use borrow.Author.Tests.{leb-false}
use Rattle.rules.specs.Messages.{key_too_long}
use Rattle.key_words.proofs.KeyWords.{key-number}
use Rattle.fields.proofs.key_of.Goals as goal

pub returns : goal.returns
unfolding key_too_long
returns c =
    record {
      size = c.key_part.ensures.size;
      number = key-number c.key_part.ensures (rw c.key_word.ensures.number (leb-false _ _ c.requires.1)) ∙ c.key_word.ensures.number;
    }
