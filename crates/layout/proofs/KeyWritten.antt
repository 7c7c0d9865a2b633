-- A slot's key, written: the number of its 32 bytes is the slot of their parts. The bytes are read from the front, so the number
-- of the middle is added behind the mark and the region, and the end behind that.
use Rattle.std.proofs.Common.{ℕ, ◌+◌, ◌*◌, ◌^◌, arith, ap, ◌∙◌, length-append, ◌≡◌, [], ◌∷◌, ◌++◌, length}
use Rattle.rules.specs.Words.{Bytes, key_bytes, word_bytes, num_after, num}
use Rattle.rules.specs.KernelStorage.{kernel_mark, slot, ending}
use Rattle.laws.proofs.Numerals.{num_after-append, num_after-num}
use Rattle.words.specs.Words.{Holds}

-- the mark, the region, the middle and the end
pub key-of-slot : (region : ℕ) (middle : Bytes) (a b c : ℕ) → length middle ≡ key_bytes
    → Holds word_bytes (0xff ∷ 0xff ∷ 0xff ∷ 0xff ∷ region ∷ middle ++ (a ∷ b ∷ c ∷ [])) (slot region (num middle) (ending a b c))
unfolding slot ending num_after
key-of-slot region middle a b c q =
    record {
      size = simp length-append (omega arith);
      number = unfold num in (num_after-append front middle (a ∷ b ∷ c ∷ []) ∙ ap end middle-behind ∙ digits (front * 256 ^ key_bytes + num middle));
    }
  where
    front : ℕ
    front = kernel_mark * 256 + region

    middle-behind : num_after front middle ≡ front * 256 ^ key_bytes + num middle
    middle-behind = num_after-num front middle ∙ rw q

    end : ℕ → ℕ
    end x = ((x * 256 + a) * 256 + b) * 256 + c

    digits : (x : ℕ) → end x ≡ x * 256 ^ 3 + ((a * 256 + b) * 256 + c)
    digits x = omega arith
