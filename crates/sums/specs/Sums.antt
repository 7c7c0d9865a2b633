-- What is carried where two sums are compared limb by limb.
use Rattle.std.specs.Prelude.{ℕ, ◌+◌, ◌*◌, ◌-◌, ◌/◌}
use Rattle.limbs.specs.Limbs.{limb_base}

-- how far a + n is ahead of p + q, two too large, where it was `carry` before these limbs
abbrev pub carry_of : ℕ → ℕ → ℕ → ℕ → ℕ → ℕ
carry_of p q a n carry = (a + n + carry + 2 * (limb_base - 1) - (p + q)) / limb_base
