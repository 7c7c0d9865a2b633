-- What is promised of the key in a word.
use Rattle.std.specs.Prelude.{◌≡◌, length, take, drop}
use Rattle.rules.specs.Words.{Bytes, key_bytes}

-- the last 24 bytes of a word
pub record KeyPart (word part : Bytes) : Type 0 where
  pub is : part ≡ take key_bytes (drop 8 word)
  pub size : length part ≡ key_bytes
