-- "If the deleted key is itself the last, nothing moves": Delete's first two stores then put what is there already.
-- Putting what is there changes nothing, so the store after Delete is the same without them.
use Prim.Native.Nat.{ℕ, ◌-◌}
use native.Mathlib.Omega.{arith}
use mathlib.Core.Path.{◌≡◌, sym, ap, ◌∙◌}
use mathlib.Core.Logic.{◌≢◌, ◌⊎◌, inl, inr}
use mathlib.Core.List.{[], ◌∷◌}
use Rattle.rules.specs.Table.{Store, ◌holds◌, get, put, puts, Ascending}
use Rattle.rules.specs.KernelStorage.{index_slot, length_slot, place_slot}
use Rattle.rules.specs.Procedures.{list_length, key_at, index_of}
use Rattle.rules.specs.Calls.{without_procedure, after_delete}
use Rattle.laws.proofs.Numbers.{same_or_not}
use Rattle.laws.proofs.Stores.{put-ascending, get-put-same, get-put-other, store-ext}

pub put_same : (s : Store) (k : ℕ) → Ascending 0 s → put s k (get s k) ≡ s
put_same s k a = store-ext (put s k (get s k)) s (put-ascending 0 s k (get s k) (omega arith) a) a (λ j. go j (same_or_not j k))
  where
    go : (j : ℕ) → (j ≡ k) ⊎ (j ≢ k) → get (put s k (get s k)) j ≡ get s j
    go j (inl q) = rw q (get-put-same 0 s k (get s k) a)
    go j (inr other) = get-put-other s k (get s k) j other

-- what is left of Delete where nothing moves
abbrev pub without_last : Store → (key : ℕ) → Store
without_last s p = without_procedure p (puts s (length_slot holds (list_length s - 1) ∷ place_slot (list_length s) holds 0 ∷ []))

module _ (s : Store) (p : ℕ) (a : Ascending 0 s) (last : index_of s p ≡ list_length s) (here : key_at s (index_of s p) ≡ p) where
  place-there : put s (place_slot (index_of s p)) (key_at s (list_length s)) ≡ s
  unfolding key_at
  place-there = rw last (put_same s (place_slot (list_length s)) a)

  index-there : put s (index_slot (key_at s (list_length s))) (index_of s p) ≡ s
  unfolding index_of
  index-there = let last-key : key_at s (list_length s) ≡ p = sym (ap (key_at s) last) ∙ here in rw last-key (put_same s (index_slot p) a)

  pub last-place-moves-nothing : after_delete s p ≡ without_last s p
  unfolding after_delete puts
  last-place-moves-nothing = rw (place-there, index-there)
