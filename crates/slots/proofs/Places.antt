-- A place of the list in the middle of its key: 16 zeros, then the place's 8 bytes.
use Rattle.std.proofs.Common.{ℕ, ◌+◌, ◌*◌, ◌^◌, ◌<◌, arith, ◌∙◌, append-nil, ◌≡◌, [], ◌++◌, replicate}
use Rattle.rules.specs.Words.{Bytes, num_after, num, bytes_of}
use Rattle.laws.proofs.Words.{num_after-bytes}

module _ (n : ℕ) (bs : Bytes) (written : bs ≡ bytes_of 8 n) where
  pub place-number : n < 256 ^ 8 → num (replicate 16 0 ++ (bs ++ [])) ≡ n
  unfolding num num_after bytes_of
  place-number h = rw (append-nil bs, written) (num_after-bytes 8 n 0 [] h ∙ none_before (256 ^ 8))
    where
      none_before : (p : ℕ) → 0 * p + n ≡ n
      none_before p = omega arith
