-- A code's bytes: a code below 256 has one, any other has two.
use Rattle.std.proofs.Common.{ℕ, ◌/◌, ◌%◌, ◌≤◌, ◌<◌, arith, ◌≡◌, refl, sym, ◌∙◌, Bool, true, false, ltb, [], ◌∷◌, length}
use native.Mathlib.Nat.{div-add-mod'}
use borrow.Author.Tests.{ltb-true, ltb-false}
use Rattle.rules.specs.Answers.{code_bytes}
use Rattle.rules.proofs.Source.{one_byte, two_bytes}
use Rattle.replies.specs.Exports.{padded}

-- how many bytes there are says how large the code is
module _ (c : ℕ) {n : ℕ} (e : n ≡ length (code_bytes c)) where
  pub one-below : n ≡ 1 → c < 256
  one-below h = go (ltb c 256) refl
    where
      go : (b : Bool) → ltb c 256 ≡ b → c < 256
      go true t = ltb-true c 256 t
      go false t = let two : n ≡ 2 = rw (two_bytes c (ltb-false c 256 t)) at e in absurd (omega (arith, h, two))

  pub two-above : (n ≡ 1 → ⊥) → 256 ≤ c
  two-above h = go (ltb c 256) refl
    where
      go : (b : Bool) → ltb c 256 ≡ b → 256 ≤ c
      go true t = let one : n ≡ 1 = rw (one_byte c (ltb-true c 256 t)) at e in absurd (h one)
      go false t = ltb-false c 256 t

pub one-padded : (c : ℕ) → c < 256 → c % 256 ∷ 0 ∷ [] ≡ padded (code_bytes c)
unfolding padded
one-padded c h = let low : c % 256 ≡ c = omega arith in rw (low, one_byte c h)

pub two-padded : (c : ℕ) → 256 ≤ c → c < 65536 → c / 256 % 256 ∷ c % 256 ∷ [] ≡ padded (code_bytes c)
unfolding padded
two-padded c h f =
    let high : c / 256 % 256 ≡ c / 256 = omega (arith, div-add-mod' c 256, div-add-mod' (c / 256) 256) in
    rw (two_bytes c h, high) refl
