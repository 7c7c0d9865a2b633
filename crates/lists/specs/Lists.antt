-- What is known of a table whose records from the list length on are as they have to be.
use Rattle.std.specs.Prelude.{ℕ, ◌+◌, ◌*◌, ◌≡◌, true}
use Rattle.rules.specs.Words.{Bytes, word_bytes, word_at}
use Rattle.rules.specs.Table.{record_size, Record, ◌holds◌, store}
use Rattle.rules.specs.Procedures.{list_length}
use Rattle.finding.specs.declared.Records.{Records}
use Rattle.walks.specs.Walks.{before_list, list_form}

-- the i-th record of a table
abbrev pub record_at : Bytes → (i : ℕ) → Record
record_at t i = word_at t (record_size * i) holds word_at t (record_size * i + word_bytes)

-- a table with `list` records before the list length, and a list of `places` places
pub record Laid (table : Records) (list places : ℕ) : Type 0 where
  pub before : list ≡ before_list (store table.bytes.now)
  pub all : places ≡ list_length (store table.bytes.now)
  pub rows : list_form (store table.bytes.now) ≡ true
