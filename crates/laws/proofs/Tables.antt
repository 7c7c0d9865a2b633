-- A table's bytes and its store: writing a store and reading it back gives the same store, if its keys and values are words.
-- The reader takes one record for each that was written (`occupied-record`) and stops at the zeros behind them (`occupied-zeros`).
use Prim.Native.Nat.{ℕ, zero, suc, ◌*◌, ◌/◌, ◌^◌, ◌-◌, ◌≤◌, ◌<◌}
use native.Mathlib.Omega.{arith}
use mathlib.Core.Path.{◌≡◌, refl, sym, ap, ◌∙◌}
use mathlib.Core.List.{[], ◌∷◌, ◌++◌, append_assoc}
use lib.ListN.{length, take, drop, length-append, length-replicate}
use lib.Seq.{take_at, drop_at, drop-drop}
use Rattle.rules.specs.Words.{Bytes, AllBytes, num_after, num, word, Every}
use Rattle.rules.specs.Table.{Sized, Store, ◌holds◌, Ascending, record_bytes, bytes, room, occupied, store}
use Rattle.laws.proofs.Lists.{every_take, every_drop, every-replicate}
use Rattle.laws.proofs.Words.{append-bytes, num-word, length-word, word-is-bytes}

-- The length of what is written.
pub length-records : (s : Store) → length (record_bytes s) ≡ 64 * length s
unfolding record_bytes
length-records [] = omega arith
length-records (e ∷ s) = simp (length-append, length-word) (omega (arith, length-records s))

pub length-bytes : (n : ℕ) (s : Store) → 64 * length s ≤ n → length (bytes n s) ≡ n
unfolding bytes
length-bytes n s h = simp (length-append, length-records, length-replicate) (omega arith)

-- What is written consists of bytes.
records-are-bytes : (s : Store) → AllBytes (record_bytes s)
unfolding record_bytes
records-are-bytes [] = tt
records-are-bytes (r ∷ s) =
    append-bytes (word r.key) _ (word-is-bytes r.key)
    (append-bytes (word r.value) _ (word-is-bytes r.value) (records-are-bytes s))

pub bytes-are-bytes : (n : ℕ) (s : Store) → AllBytes (bytes n s)
unfolding bytes
bytes-are-bytes n s =
    append-bytes (record_bytes s) _ (records-are-bytes s) (every-replicate (λ b. b < 256) (n - 64 * length s) 0 (omega arith))

-- In zeros no record is read.
abbrev Zeros : Bytes → Type 0
Zeros bs = Every (λ b. b ≡ 0) bs

num-zeros : (bs : Bytes) → Zeros bs → num bs ≡ 0
unfolding num num_after
num-zeros [] v = refl
num-zeros (b ∷ bs) v = rw v.0 (num-zeros bs v.1)

occupied-zeros : (n : ℕ) (bs : Bytes) → Zeros bs → occupied n bs ≡ []
unfolding occupied
occupied-zeros zero bs v = refl
occupied-zeros (suc n) bs v =
    let value : Zeros (take 32 (drop 32 bs)) = every_take (λ b. b ≡ 0) 32 (drop 32 bs) (every_drop (λ b. b ≡ 0) 32 bs v) in
    rw (num-zeros (take 32 (drop 32 bs)) value, occupied)

-- A record that was written is read.
occupied-record : (n k v : ℕ) (bs : Bytes) → k < 2 ^ 256 → v < 2 ^ 256 → 1 ≤ v
    → occupied (suc n) (word k ++ (word v ++ bs)) ≡ k holds v ∷ occupied n bs
unfolding occupied
occupied-record n k v bs hk hv one = go v one value
  where
    t : Bytes
    t = word k ++ (word v ++ bs)

    behind : drop 32 t ≡ word v ++ bs
    behind = drop_at (word k) (word v ++ bs) 32 (length-word k)

    key : num (take 32 t) ≡ k
    key = ap num (take_at (word k) (word v ++ bs) 32 (length-word k)) ∙ num-word k hk

    value : num (take 32 (drop 32 t)) ≡ v
    value = ap (λ (x : Bytes). num (take 32 x)) behind ∙ ap num (take_at (word v) bs 32 (length-word v)) ∙ num-word v hv

    rest : drop 64 t ≡ bs
    rest = sym (drop-drop 32 32 t) ∙ ap (drop 32) behind ∙ drop_at (word v) bs 32 (length-word v)

    go : (x : ℕ) → 1 ≤ x → num (take 32 (drop 32 t)) ≡ x → occupied (suc n) t ≡ k holds x ∷ occupied n bs
    go zero h q = absurd (omega arith)
    go (suc x) h q = rw (q, occupied) (rw (key, rest))

occupied-bytes : (low : ℕ) (s : Store) (n : ℕ) (bs : Bytes) → Ascending low s → Sized s → length s ≤ n → Zeros bs
    → occupied n (record_bytes s ++ bs) ≡ s
unfolding record_bytes
occupied-bytes low [] n bs a v h z = occupied-zeros n bs z
occupied-bytes low (e ∷ s) zero bs a v h z = absurd (omega arith)
occupied-bytes low (e ∷ s) (suc n) bs a v h z =
    ap (occupied (suc n)) (simp append_assoc)
    ∙ occupied-record n e.key e.value (record_bytes s ++ bs) v.0.0 v.0.1 a.1
    ∙ ap (λ (x : Store). e ∷ x) (occupied-bytes (suc e.key) s n bs a.2 v.1 (omega arith) z)

pub store_bytes : (n : ℕ) (s : Store) → Ascending 0 s → Sized s → length s ≤ n → store (bytes (64 * n) s) ≡ s
unfolding store room bytes
store_bytes n s a v h =
    let rooms : length (bytes (64 * n) s) / 64 ≡ n = omega (arith, length-bytes (64 * n) s (omega arith)) in
    ap (λ (x : ℕ). occupied x (bytes (64 * n) s)) rooms
    ∙ occupied-bytes 0 s n _ a v h (every-replicate (λ b. b ≡ 0) (64 * n - 64 * length s) 0 refl)
