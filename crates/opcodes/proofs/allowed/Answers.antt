-- A shift divides by a power of two and a mask takes a remainder, which is how `allowed` says it.
use Prim.Native.Nat.{ℕ, ◌%◌}
use mathlib.Core.Path.{◌≡◌, refl}
use lib.Bits.{bit_and, and_mask}
use Rattle.rules.specs.Validation.{allowed}
use Rattle.opcodes.proofs.allowed.Goals as goal

low-three : (n : ℕ) → bit_and n 7 ≡ n % 8
low-three n = and_mask n 3

lowest : (n : ℕ) → bit_and n 1 ≡ n % 2
lowest n = and_mask n 1

pub returns : goal.returns
unfolding allowed
returns c = rw (c.from-at.ensures, low-three, lowest) refl
