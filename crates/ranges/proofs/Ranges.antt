-- A range is judged by two tests, the second only where the first holds; an address is the range that ends where it begins.
use Rattle.std.proofs.Common.{ℕ, ◌≡◌, ◌∷◌, [], refl, replicate, add-zero}
use Rattle.rules.specs.Words.{num}
use Rattle.rules.specs.Capabilities.{word_of, covers_address, within_range}
use Rattle.laws.proofs.Numerals.{num-zeros}

-- an address is within a range where the range from it on with a word of zeros is
pub address-range : (x a n : ℕ) → within_range (x ∷ num (replicate 32 0) ∷ []) (a ∷ n ∷ []) ≡ covers_address (a ∷ n ∷ []) x
unfolding within_range covers_address word_of
address-range x a n = rw (num-zeros 32, add-zero x) refl
