-- What the functions that write a table promise, where the rules have no name for it.
use Rattle.std.specs.Prelude.{ℕ, ◌≡◌, length}
use Rattle.rules.specs.Table.{Store, store}
use Rattle.finding.specs.declared.Records.{Records}
use Rattle.storing.specs.declared.table.Table.{Table}

-- what is read is the table that is written
pub record SameTable (table : Table) (read : Records) : Type 0 where
  pub bytes : read.bytes.now ≡ table.bytes.now
  pub used : read.used ≡ table.used

-- a table has become one that holds the store s. It is the same piece of memory: what the table's bytes are in the end is lent back.
-- That it has the record form, and how many records it has, is in its type.
pub record Became (before after : Table) (s : Store) : Type 0 where
  pub lent : after.bytes.ghost_name ≡ before.bytes.ghost_name
  pub long : length after.bytes.now ≡ length before.bytes.now
  pub stored : store after.bytes.now ≡ s
