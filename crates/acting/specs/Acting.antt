-- What the functions on the current procedure ask, and what `permits` answers.
use Rattle.std.specs.Prelude.{ℕ, ◌^◌, ◌≤◌, ◌<◌, ◌≡◌, ◌≢◌, Bool, not, ◌&&◌, length}
use Rattle.rules.specs.Words.{Bytes, key_bytes, word_bytes, num}
use Rattle.rules.specs.Table.{store}
use Rattle.rules.specs.Capabilities.{Kind, write, number}
use Rattle.rules.specs.Calls.{index_out_of_range, not_covering}
use Rattle.rules.specs.Source.{OfType}

-- data that begins with an index, of a message of the type that n names, and the word of a key, or for Write of an address
pub record ActsOn (n : ℕ) (d x : Bytes) : Type 0 where
  pub kind : Kind
  pub names : number kind ≡ n
  pub long : word_bytes ≤ length d
  pub key : kind ≢ write → num x < 256 ^ key_bytes

-- p says whether, of the type that n names, the capability that the data's index names is held and covers x
abbrev pub Permits : (t d : Bytes) (n x : ℕ) → (p : Bool) → Type 0
Permits t d n x p = OfType n (λ k. p ≡ (not (index_out_of_range (store t) d k) && not (not_covering (store t) d k x)))
