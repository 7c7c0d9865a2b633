-- What a table holds for a key is a word: it was read from 32 bytes. So the 32 bytes of a value that was looked up stand for it.
use Prim.Native.Nat.{ℕ, zero, suc, ◌^◌, ◌<◌}
use mathlib.Core.Path.{◌≡◌, refl}
use mathlib.Core.Bool.{Bool, true, false}
use lib.Dec.{lit<, eqb}
use lib.ListN.{take, drop}
use Rattle.rules.specs.Words.{Bytes, AllBytes, num, word}
use Rattle.rules.specs.Table.{get, room, occupied, store}
use Rattle.laws.proofs.Words.{drop-bytes, first-word-bound, num-word}

occupied-bound : (n : ℕ) (t : Bytes) → AllBytes t → (k : ℕ) → get (occupied n t) k < 2 ^ 256
unfolding occupied get
occupied-bound zero t v k = lit< tt
occupied-bound (suc n) t v k =
    go (num (take 32 (drop 32 t))) refl (first-word-bound (drop 32 t) (drop-bytes 32 t v))
    (occupied-bound n (drop 64 t) (drop-bytes 64 t v) k)
  where
    go : (x : ℕ) → num (take 32 (drop 32 t)) ≡ x → num (take 32 (drop 32 t)) < 2 ^ 256 → get (occupied n (drop 64 t)) k < 2 ^ 256
        → get (occupied (suc n) t) k < 2 ^ 256
    go zero q h later = rw (q, occupied) (lit< tt)
    go (suc x) q h later = here (eqb k (num (take 32 t))) refl
      where
        here : (b : Bool) → eqb k (num (take 32 t)) ≡ b → get (occupied (suc n) t) k < 2 ^ 256
        here true e = rw (q, occupied) (rw (e, get) (rw q at h))
        here false e = rw (q, occupied) (rw (e, get) later)

pub looked-bound : (t : Bytes) → AllBytes t → (k : ℕ) → get (store t) k < 2 ^ 256
unfolding store
looked-bound t v k = occupied-bound (room t) t v k

pub looked-number : (t : Bytes) → AllBytes t → (k : ℕ) → num (word (get (store t) k)) ≡ get (store t) k
looked-number t v k = num-word (get (store t) k) (looked-bound t v k)
