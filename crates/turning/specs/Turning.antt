-- What is left of Turn's row where the table is sound.
use Rattle.std.specs.Prelude.{drop}
use Rattle.rules.specs.Words.{Bytes}
use Rattle.rules.specs.Answers.{Result, ◌then◌}
use Rattle.rules.specs.Calls.{turn_row, turn_effect}

-- the key's length and the table have been judged
abbrev pub turn_on_sound : (table key : Bytes) → Result
turn_on_sound t k = drop 2 (turn_row t k) then turn_effect t k
