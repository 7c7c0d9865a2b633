-- What is promised of a word that is read in bytes.
use Rattle.std.specs.Prelude.{ℕ, ◌≡◌, length, take, drop}
use Rattle.rules.specs.Words.{Bytes, word_bytes, num, word_at}

-- a part of bytes is the word that begins at an offset
pub record WordPart (bs : Bytes) (at : ℕ) (part : Bytes) : Type 0 where
  pub is : part ≡ take word_bytes (drop at bs)
  pub size : length part ≡ word_bytes
  pub number : num part ≡ word_at bs at
