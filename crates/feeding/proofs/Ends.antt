-- Where a line ends: the first line feed's place is `index_of`, and with none that is the number of the bytes.
use Rattle.std.proofs.Common.{◌≡◌, ℕ, ◌+◌, ◌-◌, ◌<◌, ◌≤◌, ◌==◌, Some, None, [], ◌∷◌, length, take, drop, position, length-drop, refl, arith}
use Rattle.std.proofs.Math.Seq.{take_all}
use Rattle.std.specs.List.{position_or_len}
use Rattle.rules.specs.Words.{Bytes}
use Rattle.rules.specs.Program.{line_feed}
use Rattle.feeding.specs.Feeding.{index_after, index_of}

index-first : (bs : Bytes) → position_or_len (λ b. b == line_feed) bs ≡ index_of line_feed bs
unfolding index_of index_after
index-first [] = refl
index-first (b ∷ bs) = let more = index-first bs in grind arith

index-most : (bs : Bytes) → index_of line_feed bs ≤ length bs
unfolding index_of index_after
index-most [] = omega arith
index-most (b ∷ bs) = let more = index-most bs in grind arith

-- what the search for one from `at` on answers
module _ (bs : Bytes) (at : ℕ) where
  all-left : take (length bs - at) (drop at bs) ≡ drop at bs
  all-left = take_all (length bs - at) (drop at bs) (omega (arith, length-drop at bs))

  pub index-some : (n : ℕ) → position (λ b. b == line_feed) (take (length bs - at) (drop at bs)) ≡ Some n
      → (n ≡ index_of line_feed (drop at bs)) × (n + at < length bs)
  index-some n e =
      let found : position (λ b. b == line_feed) (drop at bs) ≡ Some n = rw all-left at e in
      let first = index-first (drop at bs) in
      let long = length-drop at bs in
      grind arith

  pub index-none : position (λ b. b == line_feed) (take (length bs - at) (drop at bs)) ≡ None → index_of line_feed (drop at bs) ≡ length (drop at bs)
  index-none e =
      let found : position (λ b. b == line_feed) (drop at bs) ≡ None = rw all-left at e in
      let first = index-first (drop at bs) in
      let most = index-most (drop at bs) in
      grind arith
