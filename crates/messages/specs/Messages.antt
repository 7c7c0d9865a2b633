-- What the functions on a message promise, where the rules have no name for it.
use Rattle.std.specs.Prelude.{ℕ, Bool, not, ◌&&◌, ltb, length}
use Rattle.rules.specs.Words.{Bytes}
use Rattle.rules.specs.Capabilities.{number}
use Rattle.rules.specs.Messages.{Named as Meaning, null, unknown, of_kind}
use Rattle.rules.specs.Source.{minimum_of, open_ended_of}
use Rattle.messages.specs.declared.Named.{Named}
use Rattle.messages.specs.declared.Named.TheVariants.{Null, Unknown, Of}

-- the source's case for what a message's type names
unfoldable pub named_of : Meaning → Named
named_of null = Null
named_of unknown = Unknown
named_of (of_kind kind) = Of (record { 0 = number kind })

-- `overlong` of the type that a number names; if it names none, whether there is data at all, as its minimum is 0
unfoldable pub overlong_of : ℕ → Bytes → Bool
overlong_of n d = not (open_ended_of n) && ltb (minimum_of n) (length d)
