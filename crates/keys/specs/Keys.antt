-- What is promised of the parts of a key, where the rules have no name for it.
use Rattle.std.specs.Prelude.{ℕ, ◌/◌, ◌%◌, ◌^◌}
use Rattle.rules.specs.Words.{Bytes, key_bytes}
use Rattle.rules.specs.KernelStorage.{middle_of}
use Rattle.words.specs.Words.{Holds}

-- the part of a key that is its middle
abbrev pub MiddleOf : (key : ℕ) → (part : Bytes) → Type 0
MiddleOf key part = Holds key_bytes part (middle_of key)

-- byte 4 of a key, "the region", and byte 29, the end's first
unfoldable pub region_of : ℕ → ℕ
region_of k = k / 256 ^ 27 % 256

unfoldable pub end_first : ℕ → ℕ
end_first k = k / 256 ^ 2 % 256
