-- The part is the word's first n bytes, and the law of leading bytes is about those.
use Prim.Native.Nat.{ℕ, ◌+◌, ◌-◌}
use mathlib.Core.Path.{◌≡◌, sym, ap, ◌∙◌}
use mathlib.Core.Bool.{not}
use native.Mathlib.Omega.{arith}
use lib.Dec.{eqb}
use lib.ListN.{take, drop}
use Rattle.rules.specs.Words.{num}
use Rattle.laws.proofs.Numerals.{all-bytes}
use Rattle.laws.proofs.WordParts.{leads}
use Rattle.fields.proofs.leading_at.Goals as goal

pub returns : goal.returns
returns c =
    let d = c.args.d.now in
    let at = c.args.at in
    let n = c.args.n in
    let size : at + n - at ≡ n = omega arith in
    let bytes = all-bytes d (λ i. (c.type_inv.d i).fits) in
    ap not (c.is_zero.ensures ∙ ap (λ (k : ℕ). eqb (num (take k (drop at d))) 0) size)
    ∙ sym (leads d at n (32 - n) (omega arith) bytes (omega arith))
