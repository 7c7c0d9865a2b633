-- Leading bytes by the type's number: the types 3 to 6 have a key word, and type 4 has an address word. The numbers below 8
-- are few, so antt computes the rules' values at each.
use Prim.Native.Nat.{ℕ, ◌≤◌}
use native.Mathlib.Omega.{arith}
use mathlib.Core.Path.{◌≡◌, refl, sym, ◌∙◌}
use mathlib.Core.Logic.{◌≢◌}
use mathlib.Core.Bool.{Bool, true, false, not, ◌&&◌, ◌||◌}
use lib.Dec.{leb}
use borrow.Author.Tests.{leb-true, le-leb}
use Rattle.rules.specs.Words.{Bytes}
use Rattle.rules.specs.Capabilities.{call, register, delete, set_entry, write, number, kind_among, kind_of}
use Rattle.rules.specs.Messages.{minimum, key_too_long, address_too_long, leading_bytes}
use Rattle.rules.specs.Source.{minimum_of, OfType}
use Rattle.rules.proofs.Source.{value-at}

-- what each of the code's arms decides
module _ (d : Bytes) (n : ℕ) where
  pub leading-none : n ≢ 3 → n ≢ 4 → n ≢ 5 → n ≢ 6 → OfType n (λ kind. false ≡ leading_bytes kind d)
  unfolding number leading_bytes
  leading-none a b e f call q = absurd (a (sym q))
  leading-none a b e f register q = absurd (b (sym q))
  leading-none a b e f delete q = absurd (e (sym q))
  leading-none a b e f set_entry q = absurd (f (sym q))
  leading-none a b e f write q = refl

  pub leading-key : n ≢ 4 → n ≤ 6 → OfType n (λ kind. key_too_long d ≡ leading_bytes kind d)
  unfolding number leading_bytes
  leading-key a h call q = refl
  leading-key a h register q = absurd (a (sym q))
  leading-key a h delete q = refl
  leading-key a h set_entry q = refl
  leading-key a h write q = absurd (omega arith)

  -- Register's two words
  pub leading-both : n ≡ 4 → OfType n (λ kind. (key_too_long d || address_too_long d) ≡ leading_bytes kind d)
  unfolding number leading_bytes
  leading-both e call q = absurd (omega arith)
  leading-both e register q = refl
  leading-both e delete q = absurd (omega arith)
  leading-both e set_entry q = absurd (omega arith)
  leading-both e write q = absurd (omega arith)

-- a type with a key word has it in its minimum
pub key-within : (n : ℕ) → 3 ≤ n → n ≤ 6 → 64 ≤ minimum_of n
unfolding minimum_of kind_of kind_among number minimum
key-within n l h =
    let passed : test n ≡ true = sym (value-at test true 8 n (omega arith)) ∙ value-at (λ k. true) true 8 n (omega arith) in
    leb-true 64 (minimum_of n) (simp (le-leb 3 n l, le-leb n 6 h) at passed)
  where
    test : ℕ → Bool
    test k = not (leb 3 k && leb k 6) || leb 64 (minimum_of k)

-- and Register its address word
pub address-within : (n : ℕ) → n ≡ 4 → minimum_of n ≡ 96
unfolding minimum_of kind_of kind_among number minimum
address-within n e = rw e
