-- What holds between two turns of the program.
use Rattle.std.specs.Prelude.{◌-◌, ◌≤◌, length, take, drop}
use Rattle.rules.specs.Words.{Bytes}
use Rattle.portal.specs.declared.State.{State}

-- the bytes that are still to be answered are within the input's buffer
pub record Within (s : State) (input : Bytes) : Type 0 where
  pub ordered : s.start ≤ s.end
  pub inside : s.end ≤ length input

-- those bytes
abbrev pub unanswered : (s : State) → (input : Bytes) → Bytes
unanswered s input = take (s.end - s.start) (drop s.start input)
