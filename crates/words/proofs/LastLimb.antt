-- The number of a word by its last limb and the others: where these are zero, it is the limb.
use Rattle.std.proofs.Common.{ℕ, ◌+◌, ◌*◌, min, ◌≡◌, sym, ap, ◌∙◌, arith, true, false, eqb, take, take_all}
use borrow.Author.Tests.{eqb-true, eqb-false}
use Rattle.rules.specs.Words.{Bytes, num}
use Rattle.laws.proofs.Numerals.{num-more}
use Rattle.limbs.specs.Limbs.{limb_base, Limb}
use Rattle.words.specs.Words.{small_limit}
use Rattle.limbs.proofs.Limbs.{Word, limb-more}

module _ {w : Bytes} (v : Word w) where
  last : {x : ℕ} → Limb w 28 x → num w ≡ num (take 28 w) * limb_base + x
  last l = ap num (sym (take_all 32 w (omega arith))) ∙ limb-more v (omega arith) l

  pub is-small : {x : ℕ} → eqb (num (take 28 w)) 0 ≡ true → Limb w 28 x → x ≡ min (num w) small_limit
  is-small t l = let z = eqb-true (num (take 28 w)) 0 t in omega (arith, last l)

  pub not-small : eqb (num (take 28 w)) 0 ≡ false → small_limit ≡ min (num w) small_limit
  not-small t =
      let z : num (take 28 w) ≡ 0 → ⊥ = eqb-false (num (take 28 w)) 0 t in
      let split = ap num (sym (take_all 32 w (omega arith))) ∙ num-more w 28 4 (omega arith) in
      omega (arith, split)
