-- Each number of the source is the one that the rules name: both sides compute to the same lists.
use mathlib.Core.Path.{refl}
use Rattle.rules.specs.Words.{bytes_of, bytes_before}
use Rattle.rules.specs.Capabilities.{number, greatest_prefix}
use Rattle.rules.specs.Answers.{code_number}
use Rattle.rules.specs.Source.{rule_numbers}
use Rattle.rules.proofs.named_numbers.Goals as goal

pub returns : goal.returns
unfolding rule_numbers greatest_prefix bytes_of bytes_before number code_number
returns c = refl
