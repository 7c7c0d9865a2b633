-- What is promised of a slot's key.
use Rattle.std.specs.Prelude.{ℕ}
use Rattle.rules.specs.Words.{Bytes, word_bytes}
use Rattle.words.specs.Words.{Holds}

-- the 32 bytes of a slot's key
abbrev pub KeyOf : (slot : ℕ) → (key : Bytes) → Type 0
KeyOf slot key = Holds word_bytes key slot
