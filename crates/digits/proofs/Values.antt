-- A digit has its value, and another character has none.
use Rattle.std.proofs.Common.{◌≡◌, ℕ, Some, None}
use Rattle.std.proofs.Math.Option.{none, some}
use Rattle.rules.specs.Program.{digit_of}
use Rattle.digits.specs.Decoding.{value_of}

pub digit_value : (c d : ℕ) → digit_of c ≡ some d → value_of c ≡ Some d
unfolding value_of
digit_value c d e = rw (e, value_of)

pub other-value : (c : ℕ) → digit_of c ≡ none → value_of c ≡ None
unfolding value_of
other-value c e = rw (e, value_of)
