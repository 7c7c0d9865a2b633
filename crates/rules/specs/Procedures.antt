-- What a store says of the kernel: the list of procedures, what each holds, the current and the entry procedure.
use Rattle.std.specs.Prelude.{ℕ, zero, suc, ◌≤◌, ◌≡◌, List, [], ◌∷◌, Bool, ◌&&◌, eqb, leb}
use Rattle.rules.specs.Table.{Store, get}
use Rattle.rules.specs.KernelStorage.{address_slot, index_slot, count_slot, word_slot, length_slot, place_slot, kernel_address_slot, current_slot, entry_slot}
use Rattle.rules.specs.Capabilities.{Kind, number, word_count, Capability}

module _ (s : Store) where
  unfoldable pub list_length : ℕ
  list_length = get s length_slot

  -- the n-th procedure key, n from 1
  unfoldable pub key_at : ℕ → ℕ
  key_at n = get s (place_slot n)

  unfoldable pub address_of : ℕ → ℕ
  address_of p = get s (address_slot p)

  unfoldable pub index_of : ℕ → ℕ
  index_of p = get s (index_slot p)

  unfoldable pub count_of : ℕ → Kind → ℕ
  count_of p kind = get s (count_slot p (number kind))

  unfoldable pub kernel_address : ℕ
  kernel_address = get s kernel_address_slot

  unfoldable pub current : ℕ
  current = get s current_slot

  unfoldable pub entry_key : ℕ
  entry_key = get s entry_slot

  -- n words of the i-th capability of a type, from word k on. "A capability word that is zero is absent from the table,
  -- and still belongs to the capability."
  unfoldable pub words_from : ℕ → Kind → ℕ → ℕ → ℕ → Capability
  words_from p kind i zero k = []
  words_from p kind i (suc n) k = get s (word_slot p (number kind) i k) ∷ words_from p kind i n (suc k)

  -- the i-th capability of a type, i from 1
  unfoldable pub capability : ℕ → Kind → ℕ → Capability
  capability p kind i = words_from p kind i (word_count kind) 0

  -- n capabilities of a type, from the i-th on
  unfoldable pub capabilities_from : ℕ → Kind → ℕ → ℕ → List Capability
  capabilities_from p kind zero i = []
  capabilities_from p kind (suc n) i = capability p kind i ∷ capabilities_from p kind n (suc i)

  -- the capabilities of a type that a procedure holds, in order
  unfoldable pub held : ℕ → Kind → List Capability
  held p kind = capabilities_from p kind (count_of p kind) 1

  -- a place of the list: 1 to N
  pub record InList (n : ℕ) : Type 0 where
    pub first : 1 ≤ n
    pub last : n ≤ list_length

  -- a key is listed when it stands at a place of the list
  pub record Listed (p : ℕ) : Type 0 where
    pub place : ℕ
    pub in_list : InList place
    pub here : key_at place ≡ p

  -- The test for a listed key: its index names a place of the list, and the key stands there.
  -- In a sound store it decides `Listed` (`listed-true` and `listed_here` of the laws); a call judges by it only after the table
  -- was found sound.
  unfoldable pub listed : ℕ → Bool
  listed p = leb 1 (index_of p) && leb (index_of p) list_length && eqb (key_at (index_of p)) p

-- a procedure of s' that was listed in s, with the same address, and holds what it held
pub record Kept (s s' : Store) (p : ℕ) : Type 0 where
  pub was : Listed s p
  pub address : address_of s' p ≡ address_of s p
  pub holds : (kind : Kind) → held s' p kind ≡ held s p kind
