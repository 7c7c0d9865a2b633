-- Room for records that are stored one after the other. Each store adds at most one record and one of value zero none;
-- a value that is not zero takes none away, so what such stores leave is never less than what they had on the way.
use Rattle.std.proofs.Common.{ℕ, zero, suc, ◌+◌, ◌≤◌, arith, List, [], ◌∷◌, length}
use Rattle.rules.specs.Words.{Every}
use Rattle.rules.specs.Table.{Store, Record, put, puts}
use Rattle.laws.proofs.Stores.{put-length, put-zero-length, put-no-shorter}
use Rattle.counting.specs.Counting.{taken_by, non_zero}
use Rattle.counting.proofs.OneValue.{taken-one}
use Rattle.capability_records.specs.CapabilityRecords.{Roomy}

put-taken : (s : Store) (k v : ℕ) → length (put s k v) ≤ length s + taken_by v
put-taken s k zero = omega (arith, put-zero-length s k)
put-taken s k (suc v) = omega (arith, put-length s k (suc v), taken-one (suc v) (omega arith))

module _ (rooms : ℕ) where
  -- room for every record that is not zero
  pub roomy-within : (s : Store) (rs : List Record) → length s + non_zero rs ≤ rooms → Roomy rooms s rs
  unfolding non_zero
  roomy-within s [] h = tt
  roomy-within s (r ∷ rs) h =
      let one = put-taken s r.key r.value in
      (omega arith, roomy-within (put s r.key r.value) rs (omega arith))

  -- room for what values that are not zero leave
  puts-no-shorter : (s : Store) (rs : List Record) → Every (λ r. 1 ≤ r.value) rs → length s ≤ length (puts s rs)
  unfolding puts
  puts-no-shorter s [] h = omega arith
  puts-no-shorter s (r ∷ rs) h =
      omega (arith, put-no-shorter s r.key r.value h.0, puts-no-shorter (put s r.key r.value) rs h.1)

  pub roomy_after : (s : Store) (rs : List Record) → Every (λ r. 1 ≤ r.value) rs → length (puts s rs) ≤ rooms → Roomy rooms s rs
  unfolding puts
  roomy_after s [] h l = tt
  roomy_after s (r ∷ rs) h l =
      (omega (arith, puts-no-shorter (put s r.key r.value) rs h.1), roomy_after (put s r.key r.value) rs h.1 l)
