-- The test of all of a list, step by step: what is left of the answer behind an element that passes, and the answer where one fails.
use mathlib.Core.Path.{◌≡◌}
use mathlib.Core.List.{List, ◌∷◌}
use mathlib.Core.Bool.{Bool, true, false}
use Rattle.rules.specs.Sound.{all_of}

module _ {A : Type 0} (f : A → Bool) (x : A) (xs : List A) where
  pub all-passed : f x ≡ true → all_of f (x ∷ xs) ≡ all_of f xs
  unfolding all_of
  all-passed e = rw (e, all_of)

  pub all-failed : f x ≡ false → all_of f (x ∷ xs) ≡ false
  unfolding all_of
  all-failed e = rw (e, all_of)
