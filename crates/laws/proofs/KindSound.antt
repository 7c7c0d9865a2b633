-- What a procedure holds of one type in a sound store: at most 255 capabilities, and every prefix in range.
-- The test for it, `kind_sound`, holds of every listed procedure, and says so of each capability.
use Prim.Native.Nat.{ℕ, ◌≤◌}
use mathlib.Core.Path.{◌≡◌}
use mathlib.Core.Bool.{true}
use lib.Dec.{leb}
use borrow.Author.Tests.{leb-true, le-leb}
use Rattle.rules.specs.Table.{Store}
use Rattle.rules.specs.Capabilities.{Kind, prefix_in_range}
use Rattle.rules.specs.Procedures.{count_of, capability, held, Listed}
use Rattle.rules.specs.Sound.{greatest_count, Sound, kind_sound}
use Rattle.laws.proofs.Bools.{and_left, and_right, and_both}
use Rattle.laws.proofs.Lists.{all_true, every-all}
use Rattle.laws.proofs.Procedures.{held-each, each-held}

pub listed-kind-sound : (s : Store) → Sound s → (p : ℕ) → Listed s p → (kind : Kind) → kind_sound s p kind ≡ true
unfolding kind_sound
listed-kind-sound s h p l kind =
    rw (← l.here)
    (and_both _ _ (le-leb _ _ (h.counts l.place l.in_list kind))
    (every-all _ _ (each-held (λ c. prefix_in_range kind c ≡ true) s _ kind (h.prefixes l.place l.in_list kind))))

module _ (s : Store) (p : ℕ) (kind : Kind) (sound : kind_sound s p kind ≡ true) where
  pub count-at-most : count_of s p kind ≤ greatest_count
  unfolding kind_sound
  count-at-most = leb-true _ _ (and_left _ _ sound)

  pub each-in-range : (i : ℕ) → 1 ≤ i → i ≤ count_of s p kind → prefix_in_range kind (capability s p kind i) ≡ true
  unfolding kind_sound
  each-in-range =
      held-each (λ c. prefix_in_range kind c ≡ true) s p kind
      (all_true (prefix_in_range kind) (held s p kind) (and_right (leb (count_of s p kind) greatest_count) _ sound))
