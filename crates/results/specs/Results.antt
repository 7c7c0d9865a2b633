-- What the functions that carry out a call ask and promise.
use Rattle.std.specs.Prelude.{◌*◌, ◌≤◌, ◌≡◌, false, length}
use Rattle.rules.specs.Words.{Bytes, word_bytes}
use Rattle.rules.specs.Messages.{key_too_long}
use Rattle.rules.specs.Answers.{Outcome}
use Rattle.rules.specs.Source.{reply_of, Reply}
use Rattle.storing.specs.declared.table.Table.{Table}

-- data with an index and a key word, which has no leading bytes
pub record NamesKey (d : Bytes) : Type 0 where
  pub long : 2 * word_bytes ≤ length d
  pub fits : key_too_long d ≡ false

-- The promise of a call: the reply stands for the answer, and every byte of the table after is as defined.
pub record Gives (o : Outcome) (r : Reply) (after : Bytes) : Type 0 where
  pub reply : r ≡ reply_of o.answer
  pub table : after ≡ o.table

-- The promise of a call on a table that is written: the same, and the bytes are those that were lent.
pub record Leaves (o : Outcome) (r : Reply) (before after : Table) : Type 0 where
  pub lent : after.bytes.ghost_name ≡ before.bytes.ghost_name
  pub gives : Gives o r after.bytes.now
