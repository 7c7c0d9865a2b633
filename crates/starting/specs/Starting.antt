-- What is left of set-up's row where its sizes are right.
use Rattle.std.specs.Prelude.{drop}
use Rattle.rules.specs.Words.{Bytes}
use Rattle.rules.specs.Answers.{Result, ◌then◌}
use Rattle.rules.specs.Calls.{set_up_row, set_up_effect}

-- set-up's row from there on: the first four checks have passed
abbrev pub set_up_on_sizes : (table key address kernel_address : Bytes) → Result
set_up_on_sizes t k a ka = drop 4 (set_up_row t k a ka) then set_up_effect k a ka
