-- A store has at most as many records as another in which each of its keys is present:
-- with its first key, one record goes from the other store, and the rest is no longer than what is left there.
use Prim.Native.Nat.{ℕ, suc, ◌≤◌}
use native.Mathlib.Omega.{arith}
use mathlib.Core.Path.{refl, sym, ◌∙◌}
use mathlib.Core.Logic.{◌≢◌}
use mathlib.Core.List.{[], ◌∷◌}
use lib.ListN.{length}
use Rattle.rules.specs.Table.{Store, get, put, Ascending}
use Rattle.laws.proofs.Stores.{get-here, get-past, get-below, get-put-other, put-ascending, put-shorter}

pub no_longer : (low : ℕ) (t s : Store) → Ascending low t → Ascending 0 s → ((k : ℕ) → get t k ≢ 0 → get s k ≢ 0) → length t ≤ length s
no_longer low [] s a b present = omega arith
no_longer low (e ∷ t) s (above, non_zero, rest) b present =
    let shorter = put-shorter 0 s e.key b (present e.key (λ z. omega (arith, get-here e t e.key refl))) in
    let others = no_longer (suc e.key) t (put s e.key 0) rest (put-ascending 0 s e.key 0 (omega arith) b) still in
    omega arith
  where
    still : (k : ℕ) → get t k ≢ 0 → get (put s e.key 0) k ≢ 0
    still k h z = present k (λ y. h (sym (get-past e t k other) ∙ y)) (sym (get-put-other s e.key 0 k other) ∙ z)
      where
        other : k ≢ e.key
        other q = h (get-below (suc e.key) t k rest (omega arith))
