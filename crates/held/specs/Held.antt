-- What the search among held capabilities asks and promises, where the rules have no name for it.
use Rattle.std.specs.Prelude.{ℕ, ◌+◌, ◌*◌, ◌≤◌, ◌<◌, min, ◌≡◌, true, length, take, drop, replicate}
use Rattle.rules.specs.Words.{Bytes, word_bytes}
use Rattle.rules.specs.Table.{Store, get}
use Rattle.rules.specs.KernelStorage.{count_slot}
use Rattle.rules.specs.Capabilities.{Kind, number, word_count, greatest_words, within}
use Rattle.rules.specs.Procedures.{capability, held}
use Rattle.rules.specs.Source.{OfType}
use Rattle.rules.specs.Sound.{greatest_count, any_of, kind_sound}
use Rattle.rules.specs.Calls.{tests_in}
use Rattle.words.specs.Words.{small_limit}
use Rattle.rights.specs.Rights.{capability_in}
use Rattle.held.specs.declared.Held.{Held}
use Rattle.held.specs.declared.Search.{Search}

-- the bytes of a capability's copy, and of copies of as many as a procedure may hold
abbrev pub copy_bytes : ℕ
copy_bytes = word_bytes * greatest_words

abbrev pub copies_bytes : ℕ
copies_bytes = greatest_count * copy_bytes

-- the copy behind the first i
abbrev pub copy_in : (copies : Bytes) → (i : ℕ) → Bytes
copy_in copies i = take copy_bytes (drop (copy_bytes * i) copies)

-- how far the reading of a type has come: h has the number of the type's capabilities that p holds, and its copies begin with
-- those that are read
pub record Reached (s : Store) (p : ℕ) (h : Held) : Type 0 where
  pub number : h.number ≡ min (get s (count_slot p h.kind.0)) small_limit
  pub held : (i : ℕ) → i < h.read
      → OfType h.kind.0 (λ kind. capability_in kind (copy_in h.copies i) ≡ capability s p kind (i + 1))

-- the reading of the type that n names, before any is read: the copies are zeros
pub record Unread (s : Store) (p n : ℕ) (h : Held) : Type 0 where
  pub type : h.kind.0 ≡ n
  pub number : h.number ≡ min (get s (count_slot p n)) small_limit
  pub none : h.read ≡ 0
  pub copies : h.copies ≡ replicate copies_bytes 0

-- the reading of the type that n names, which has come as far as it says if the one before has
pub record Ready (s : Store) (p n : ℕ) (before after : Held) : Type 0 where
  pub type : after.kind.0 ≡ n
  pub reached : Reached s p before → Reached s p after

-- the reading of the type that n names, which has come behind the first i
pub record ReachedBehind (s : Store) (p n i : ℕ) (h : Held) : Type 0 where
  pub type : h.kind.0 ≡ n
  pub reached : Reached s p h
  pub behind : i < h.read

-- what is asked where the capabilities of p, of the type that n names, are searched for one that contains the request
pub record SearchNeeds (s : Store) (p n : ℕ) (request : Bytes) : Type 0 where
  pub kind : Kind
  pub names : number kind ≡ n
  -- there are at most 255, and every prefix is in range
  pub sound : kind_sound s p kind ≡ true
  pub size : word_bytes * word_count kind ≤ length request

-- what the search finds, and how far the reading has come then
pub record Searched (s : Store) (p n : ℕ) (request : Bytes) (after : Held) (r : Search) : Type 0 where
  pub contained : OfType n (λ kind. r.contained ≡ any_of (within kind (capability_in kind request)) (held s p kind))
  pub tests : OfType n (λ kind. r.tests ≡ tests_in kind (capability_in kind request) (held s p kind))
  pub small : r.tests ≤ greatest_count
  pub reached : Reached s p after
