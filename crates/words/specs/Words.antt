-- What the functions on words promise, where the rules have no name for it.
use Rattle.std.specs.Prelude.{ℕ, ◌≡◌, length}
use Rattle.rules.specs.Words.{Bytes, num}
use Rattle.limbs.specs.Limbs.{limb_base}

-- words that are not less than this are all one to `small`
abbrev pub small_limit : ℕ
small_limit = limb_base

-- n bytes that stand for a number; both together leave no byte open
pub record Holds (n : ℕ) (bs : Bytes) (x : ℕ) : Type 0 where
  pub size : length bs ≡ n
  pub number : num bs ≡ x
