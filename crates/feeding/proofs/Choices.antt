-- What a choice is, once its test is known.
use Rattle.std.proofs.Common.{◌≡◌, Bool, true, false}

pub if-true : {A : Type 0} (b : Bool) (x y : A) → b ≡ true → (elim b [ true ↦ x | false ↦ y ]) ≡ x
if-true b x y e = rw e

pub if-false : {A : Type 0} (b : Bool) (x y : A) → b ≡ false → (elim b [ true ↦ x | false ↦ y ]) ≡ y
if-false b x y e = rw e
