-- What is promised of an index, where the rules have no name for it.
use Rattle.std.specs.Prelude.{ℕ, Bool, ◌&&◌, eqb, leb}
use Rattle.rules.specs.Words.{Bytes}
use Rattle.rules.specs.Table.{store}
use Rattle.rules.specs.Procedures.{list_length, key_at}

-- x is a place of the list, and the key p stands there
abbrev pub named : Bytes → (x p : ℕ) → Bool
named t x p = leb 1 x && leb x (list_length (store t)) && eqb (key_at (store t) x) p
