-- The document's example of what the program prints, computed from the definitions.
use mathlib.Core.Path.{refl}
use Rattle.rules.proofs.Computing.{computing}
use Rattle.examples.specs.Prints.{characters, ProgramPrints}

pub program-prints : ProgramPrints
unfolding computing characters
program-prints = refl
