-- What is promised of the key in a word.
use Rattle.std.specs.Prelude.{ℕ, ◌%◌, ◌^◌, ◌≡◌, length}
use Rattle.rules.specs.Words.{Bytes, key_bytes, num}

-- the last 24 bytes of a word
pub record KeyPart (word : ℕ) (part : Bytes) : Type 0 where
  pub size : length part ≡ key_bytes
  pub number : num part ≡ word % 256 ^ key_bytes
