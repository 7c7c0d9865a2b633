-- What the functions that look up slots and keys ask and promise, where the rules have no name for it.
use Rattle.std.specs.Prelude.{ℕ, ◌≤◌, ◌≡◌}
use Rattle.rules.specs.Table.{store}
use Rattle.rules.specs.Procedures.{list_length}
use Rattle.finding.specs.declared.Records.{Records}

-- a table whose list has `places` places, no more than there are records
pub record Listing (table : Records) (places : ℕ) : Type 0 where
  pub all : places ≡ list_length (store table.bytes.now)
  pub short : places ≤ table.used
