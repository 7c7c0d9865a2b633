-- What the functions on capabilities ask and promise, where the rules have no name for it.
use Rattle.std.specs.Prelude.{ℕ, ◌*◌, ◌^◌, ◌≤◌, ◌<◌, ◌≡◌, ◌≢◌, true, length}
use Rattle.rules.specs.Words.{Bytes, key_bytes, word_bytes, num, words}
use Rattle.rules.specs.Capabilities.{Kind, delete, write, number, word_count, Capability, prefix_in_range}

-- the capability of a type whose words come first in bytes
abbrev pub capability_in : Kind → Bytes → Capability
capability_in kind bs = words (word_count kind) bs

-- what is asked where a prefix is judged: a type with a prefix has its word
abbrev pub PrefixNeeds : (n : ℕ) → (capability : Bytes) → Type 0
PrefixNeeds n capability = n ≤ number delete → word_bytes ≤ length capability

-- what is asked where a capability is judged to cover a word's key, or for Write its address
pub record CoversNeeds (n : ℕ) (capability x : Bytes) : Type 0 where
  pub kind : Kind
  pub names : number kind ≡ n
  pub size : word_bytes * word_count kind ≤ length capability
  pub in_range : prefix_in_range kind (capability_in kind capability) ≡ true
  pub key : kind ≢ write → num x < 256 ^ key_bytes

-- what is asked where b is judged to lie within a; the prefix of b may be any
pub record WithinNeeds (n : ℕ) (b a : Bytes) : Type 0 where
  pub kind : Kind
  pub names : number kind ≡ n
  pub size_b : word_bytes * word_count kind ≤ length b
  pub size_a : word_bytes * word_count kind ≤ length a
  pub in_range : prefix_in_range kind (capability_in kind a) ≡ true
