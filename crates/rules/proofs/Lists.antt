-- A proof of all of a list: `Every` of it, or `AllTrue`. Of a list written out: what holds of the first, also of the second, and so
-- on, also tt. Of two lists, one after the other: what holds of each.
use mathlib.Core.List.{List, [], ◌∷◌, ◌++◌}
use Rattle.rules.specs.Words.{Every}

infixr 30 ◌also◌
pub ◌also◌ : {A B : Type 0} → A → B → A × B
a also b = (a, b)

pub every_append : {A : Type 0} (P : A → Type 0) (a b : List A) → Every P a → Every P b → Every P (a ++ b)
every_append P [] b h l = l
every_append P (x ∷ a) b h l = (h.0, every_append P a b h.1 l)
