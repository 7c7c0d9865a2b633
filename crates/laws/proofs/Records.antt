-- Records stored one after the other. Where no key stands twice in the list, the store afterwards holds each of them;
-- and no key stands twice where the keys rise.
use Prim.Native.Nat.{ℕ, suc, ◌≤◌, ◌<◌}
use native.Mathlib.Omega.{arith}
use mathlib.Core.Path.{◌≡◌}
use mathlib.Core.List.{List, [], ◌∷◌, ◌++◌}
use Rattle.rules.specs.Words.{Every}
use Rattle.rules.specs.Table.{Record, Store, get, put, puts, Ascending}
use Rattle.laws.proofs.Rows.{In, here, there}
use Rattle.laws.proofs.Stores.{put-ascending, Misses, get-puts-last}

-- the store holds each record of a list
abbrev pub Stored : Store → List Record → Type 0
Stored s rs = (r : Record) → In r rs → get s r.key ≡ r.value

pub stored-left : (s : Store) (a b : List Record) → Stored s (a ++ b) → Stored s a
stored-left s [] b h r i = elim i [ ]
stored-left s (x ∷ a) b h r here = h r here
stored-left s (x ∷ a) b h r (there i) = stored-left s a b (λ y j. h y (there j)) r i

pub stored-right : (s : Store) (a b : List Record) → Stored s (a ++ b) → Stored s b
stored-right s [] b h = h
stored-right s (x ∷ a) b h = stored-right s a b (λ y j. h y (there j))

-- no key stands twice
abbrev pub Apart : List Record → Type 0
Apart [] = Unit {0}
Apart (r ∷ rs) = Misses r.key rs × Apart rs

pub puts-stored : (s : Store) (rs : List Record) → Ascending 0 s → Apart rs → Stored (puts s rs) rs
unfolding puts
puts-stored s [] a h r i = elim i [ ]
puts-stored s (x ∷ rs) a h r here = get-puts-last s [] x rs a h.0
puts-stored s (x ∷ rs) a h r (there i) =
    puts-stored (put s x.key x.value) rs (put-ascending 0 s x.key x.value (omega arith) a) h.1 r i

-- the keys rise, from low on and below high
abbrev pub Rising : (low high : ℕ) → List Record → Type 0
Rising low high [] = low ≤ high
Rising low high (r ∷ rs) = (low ≤ r.key) × Rising (suc r.key) high rs

rising-bounds : (low high : ℕ) (rs : List Record) → Rising low high rs → low ≤ high
rising-bounds low high [] h = h
rising-bounds low high (r ∷ rs) h = omega (arith, h.0, rising-bounds (suc r.key) high rs h.1)

pub rising-append : (low middle high : ℕ) (a b : List Record) → Rising low middle a → Rising middle high b → Rising low high (a ++ b)
rising-append low middle high [] [] h l = omega arith
rising-append low middle high [] (x ∷ b) h l = (omega (arith, l.0), l.1)
rising-append low middle high (x ∷ a) b h l = (h.0, rising-append (suc x.key) middle high a b h.1 l)

-- what holds of every key from low on and below high holds of theirs
pub rising-each : (P : ℕ → Type 0) (low high : ℕ) (rs : List Record) → Rising low high rs
    → ((k : ℕ) → low ≤ k → k < high → P k) → Every (λ r. P r.key) rs
rising-each P low high [] h each = tt
rising-each P low high (r ∷ rs) h each = (
  each r.key h.0 (rising-bounds (suc r.key) high rs h.1),
  rising-each P (suc r.key) high rs h.1 (λ k from below. each k (omega (arith, h.0)) below),
)

-- a key below or above them is none of theirs
pub rising-misses : (low high : ℕ) (rs : List Record) → Rising low high rs → (k : ℕ) → (low ≤ k → k < high → ⊥) → Misses k rs
rising-misses low high rs h k outside =
    rising-each (λ x. k ≡ x → ⊥) low high rs h (λ x from below q. outside (omega (arith, q)) (omega (arith, q)))

pub rising-apart : (low high : ℕ) (rs : List Record) → Rising low high rs → Apart rs
rising-apart low high [] h = tt
rising-apart low high (r ∷ rs) h =
    (rising-misses (suc r.key) high rs h.1 r.key (λ l m. omega arith), rising-apart (suc r.key) high rs h.1)
