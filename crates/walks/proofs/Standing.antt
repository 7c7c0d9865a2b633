-- Where the walk stands: behind the key `before` the store and the records that are left say the same of every key of kernel storage.
-- So the first record that is left has its value in the store, and no key is present between it and the key before.
use Rattle.std.proofs.Common.{ℕ, suc, ◌≤◌, ◌<◌, arith, ◌≡◌, refl, ◌∙◌, ◌≢◌, [], ◌∷◌}
use Rattle.rules.specs.Words.{Every}
use Rattle.rules.specs.Table.{Record, Store, get, Ascending}
use Rattle.laws.proofs.Numbers.{Order, less, equal, more, order}
use Rattle.laws.proofs.Stores.{get-here, get-past, get-below, ascending-lower}
use Rattle.walks.specs.Walks.{first_slot}

pub record At (s : Store) (before : ℕ) (rest : Store) : Type 0 where
  pub ascends : Ascending (suc before) rest
  pub from : Ascending first_slot rest
  pub same : (k : ℕ) → first_slot ≤ k → before < k → get s k ≡ get rest k

module _ {s : Store} {before : ℕ} {r : Record} {rest : Store} (a : At s before (r ∷ rest)) where
  pub at_next : At s r.key rest
  at_next =
      record {
        ascends = a.ascends.2;
        from = ascending-lower first_slot (suc r.key) rest (up a.from.0) a.ascends.2;
        same = λ k h l. a.same k h (omega (arith, a.ascends.0)) ∙ get-past r rest k (λ q. omega (arith, q));
      }
    where
      up : {x y : ℕ} → x ≤ y → x ≤ suc y
      up h = omega arith

  pub at_value : get s r.key ≡ r.value
  at_value = a.same r.key a.from.0 a.ascends.0 ∙ get-here r rest r.key refl

  -- a key that is present behind the key before is not below the first record's
  pub at_least : (k : ℕ) → first_slot ≤ k → before < k → get s k ≢ 0 → r.key ≤ k
  at_least k h l present = go (order k r.key)
    where
      go : Order k r.key → r.key ≤ k
      go (less q) = absurd (present (a.same k h l ∙ get-below r.key (r ∷ rest) k (omega arith, a.ascends.1, a.ascends.2) q))
      go (equal q) = omega arith
      go (more q) = omega arith

-- each record that is left has its value in the store
pub at-values : (s : Store) (before : ℕ) (rest : Store) → At s before rest → Every (λ (r : Record). get s r.key ≡ r.value) rest
at-values s before [] a = tt
at-values s before (r ∷ rest) a = (at_value a, at-values s r.key rest (at_next a))
