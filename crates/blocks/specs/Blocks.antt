-- What the walk over the procedures reads of a table, where the definitions of the walk have no name for it.
use Rattle.std.specs.Prelude.{ℕ, ◌+◌, ◌*◌, ◌-◌, ◌≤◌, ◌<◌, Bool, false, eqb, leb, length}
use Rattle.rules.specs.Words.{Bytes, word_at}
use Rattle.rules.specs.Table.{record_size}
use Rattle.walks.specs.Walks.{pick, front_of}

-- the table has an i-th record
pub record HasRecord (t : Bytes) (i : ℕ) : Type 0 where
  pub inside : record_size * (i + 1) ≤ length t
  pub small : i < 1024

-- the i-th record has the front of the one before it, which is not before the first
unfoldable pub continues_at : (t : Bytes) → (first i : ℕ) → Bool
continues_at t first i =
    pick (leb i first) false (eqb (front_of (word_at t (record_size * i))) (front_of (word_at t (record_size * (i - 1)))))
