-- What the row of a message's own type asks.
use Rattle.std.specs.Prelude.{ℕ, ◌≤◌, ◌≡◌, false, length}
use Rattle.rules.specs.Words.{Bytes}
use Rattle.rules.specs.Capabilities.{Kind, number}
use Rattle.rules.specs.Messages.{greatest_message, minimum, leading_bytes}

-- data of a message of the type that n names, at least its minimum and without leading bytes
pub record Acceptable (n : ℕ) (d : Bytes) : Type 0 where
  pub kind : Kind
  pub names : number kind ≡ n
  pub long : minimum kind ≤ length d
  pub not_longer : length d ≤ greatest_message
  pub leads : leading_bytes kind d ≡ false
