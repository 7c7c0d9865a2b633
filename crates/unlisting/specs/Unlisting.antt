-- What the functions that take a procedure off the list ask and promise, where the rules have no name for it.
use Rattle.std.specs.Prelude.{ℕ, ◌≡◌, true}
use Rattle.rules.specs.Words.{Bytes}
use Rattle.rules.specs.Table.{Store, put, store}
use Rattle.rules.specs.KernelStorage.{index_slot, place_slot}
use Rattle.rules.specs.Procedures.{list_length, key_at, InList, listed}
use Rattle.rules.specs.Sound.{sound_table}

-- a sound table, and a listed procedure's key
pub record Unlistable (t : Bytes) (p : ℕ) : Type 0 where
  pub sound : sound_table t ≡ true
  pub is_listed : listed (store t) p ≡ true

-- a sound table whose list has `places` places, and one of them
pub record Movable (t : Bytes) (places freed : ℕ) : Type 0 where
  pub sound : sound_table t ≡ true
  pub all : places ≡ list_length (store t)
  pub in_list : InList (store t) freed

-- the last key stored at the freed place, and that place as the moved procedure's index
unfoldable pub last_moved : Store → (freed : ℕ) → Store
last_moved s freed =
    put (put s (place_slot freed) (key_at s (list_length s))) (index_slot (key_at s (list_length s))) freed
