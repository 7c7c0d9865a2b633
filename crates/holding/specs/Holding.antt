-- What the functions that read held capabilities ask and promise, where the rules have no name for it.
use Rattle.std.specs.Prelude.{ℕ, zero, suc, ◌+◌, ◌*◌, min, ◌≡◌, length, drop, replicate}
use Rattle.rules.specs.Words.{Bytes, word_bytes}
use Rattle.rules.specs.Table.{Store, get}
use Rattle.rules.specs.KernelStorage.{count_slot, word_slot}
use Rattle.rules.specs.Capabilities.{greatest_words}
use Rattle.rules.specs.Procedures.{capability}
use Rattle.rules.specs.Source.{words_of, OfType}
use Rattle.words.specs.Words.{small_limit, Holds}
use Rattle.finding.specs.Finding.{keys_below}
use Rattle.rights.specs.Rights.{capability_in}
use Rattle.holding.specs.declared.Count.{Count}

-- the 32 bytes of a word
abbrev pub WordOf : (x : ℕ) → (w : Bytes) → Type 0
WordOf x w = Holds word_bytes w x

-- the number of capabilities of the type that n names, as `small` gives it, and how many keys are below its key
pub record CountOf (s : Store) (p n : ℕ) (r : Count) : Type 0 where
  pub number : r.number ≡ min (get s (count_slot p n)) small_limit
  pub place : r.place ≡ keys_below s (count_slot p n)

-- room for a capability of any type, all zero
abbrev pub no_capability : Bytes
no_capability = replicate (word_bytes * greatest_words) 0

-- bytes that begin with the words of the i-th capability, of the type that n names, of the procedure p; behind them come the
-- bytes that `before` has there
pub record CapabilityOf (s : Store) (p n i : ℕ) (before bs : Bytes) : Type 0 where
  pub size : length bs ≡ word_bytes * greatest_words
  pub is : OfType n (λ kind. capability_in kind bs ≡ capability s p kind i)
  pub behind : drop (word_bytes * words_of n) bs ≡ drop (word_bytes * words_of n) before

-- how many records have at most the key of the capability's last word; the guess before, if it has no words
unfoldable pub guess_behind : Store → (p n i guess : ℕ) → ℕ
guess_behind s p n i guess = elim (words_of n) [ zero ↦ guess | suc k ↦ keys_below s (word_slot p n i k + 1) ]

-- the capability is read, and r is the next guess
pub record WordsRead (s : Store) (p n i guess : ℕ) (before bs : Bytes) (r : ℕ) : Type 0 where
  pub held : CapabilityOf s p n i before bs
  pub next : r ≡ guess_behind s p n i guess
