-- Records whose keys are absent and stand only once: each whose value is not zero is one record more.
use Rattle.std.proofs.Common.{ℕ, zero, suc, ◌+◌, arith, ◌≡◌, sym, ◌∙◌, List, [], ◌∷◌, length}
use Rattle.rules.specs.Words.{Every}
use Rattle.rules.specs.Table.{Store, Record, get, put, puts, record_before, Ascending}
use Rattle.laws.proofs.Stores.{put-ascending, get-put-other, put-absent, Misses}
use Rattle.laws.proofs.Records.{Apart}
use Rattle.counting.specs.Counting.{taken_by, non_zero}
use Rattle.counting.proofs.OneValue.{taken_none, taken-one}

pub record_before-taken : (k v : ℕ) (s : Store) → length (record_before k v s) ≡ length s + taken_by v
unfolding record_before
record_before-taken k zero s = omega (arith, taken_none)
record_before-taken k (suc v) s = omega (arith, taken-one (suc v) (omega arith))

abbrev pub Absent : Store → List Record → Type 0
Absent s rs = Every (λ r. get s r.key ≡ 0) rs

-- they are still absent once another key is stored
pub still-absent : (s : Store) (k v : ℕ) (rs : List Record) → Misses k rs → Absent s rs → Absent (put s k v) rs
still-absent s k v [] m h = tt
still-absent s k v (r ∷ rs) m h =
    (get-put-other s k v r.key (λ q. m.0 (sym q)) ∙ h.0, still-absent s k v rs m.1 h.1)

pub puts-added : (s : Store) (rs : List Record) → Ascending 0 s → Apart rs → Absent s rs → length (puts s rs) ≡ length s + non_zero rs
unfolding puts non_zero
puts-added s [] a apart h = omega arith
puts-added s (r ∷ rs) a apart h =
    let rest = puts-added (put s r.key r.value) rs (put-ascending 0 s r.key r.value (omega arith) a) apart.1
    (still-absent s r.key r.value rs apart.0 h.1) in
    omega (arith, rest, put-absent 0 s r.key r.value a h.0, record_before-taken r.key r.value s)
