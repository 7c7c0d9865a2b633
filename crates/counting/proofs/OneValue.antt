-- What a value takes: none if it is zero, one if it is not.
use Rattle.std.proofs.Common.{ℕ, ◌≤◌, ◌≡◌, refl, ap, arith, eq-eqb, ne_eqb}
use Rattle.counting.specs.Counting.{taken_if, taken_by}

pub taken_none : taken_by 0 ≡ 0
unfolding taken_by
taken_none = ap taken_if (eq-eqb 0 0 refl)

pub taken-one : (v : ℕ) → 1 ≤ v → taken_by v ≡ 1
unfolding taken_by
taken-one v h = ap taken_if (ne_eqb v 0 (λ q. omega arith))
