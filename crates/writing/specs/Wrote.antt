-- What is promised of a function that writes text into a buffer.
use Rattle.std.specs.Prelude.{ℕ, ◌+◌, ◌-◌, ◌≡◌, ◌++◌, length, take, drop}
use Rattle.rules.specs.Words.{Bytes}
use Rattle.writing.specs.declared.text.Text.{Text}

-- how many bytes more can be written
abbrev pub room : Text → ℕ
room x = length x.bytes.now - x.end

-- The text stands behind what was written before, and every other byte of the buffer is as it was; it is still the buffer that was lent.
pub record Wrote (before : Text) (text : Bytes) (after : Text) : Type 0 where
  pub same_reference : after.bytes.ghost_name ≡ before.bytes.ghost_name
  pub size : length after.bytes.now ≡ length before.bytes.now
  pub ends : after.end ≡ before.end + length text
  pub front : take after.end after.bytes.now ≡ take before.end before.bytes.now ++ text
  pub rest : drop after.end after.bytes.now ≡ drop after.end before.bytes.now
