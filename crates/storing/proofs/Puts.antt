-- Each of the four ways of `put` leaves the bytes of the store with the key set, and the bytes of an ascending store of words
-- are a table that holds it.
use Rattle.std.proofs.Common.{ℕ, zero, suc, ◌+◌, ◌*◌, ◌-◌, ◌^◌, ◌≤◌, ◌<◌, arith, add-one, ◌≡◌, sym, ap, ◌∙◌, ◌++◌, true, false, eqb, length, take, drop, replicate}
use Rattle.rules.specs.Words.{Bytes, AllBytes, num, word}
use Rattle.rules.specs.Table.{Store, Record, Ascending, Sized, put, record_before, record_bytes, bytes, room, store, record_form}
use Rattle.laws.proofs.Lists.{every_append, every_take, every_drop}
use Rattle.laws.proofs.Words.{num-bound}
use Rattle.laws.proofs.Numerals.{word-num}
use Rattle.laws.proofs.Stores.{put-ascending}
use Rattle.laws.proofs.Tables.{length-bytes, store_bytes}
use Rattle.laws.proofs.TableRecords.{Formed, formed, bytes-formed}
use Rattle.finding.proofs.Places.{Present, Absent}
use Rattle.closing.specs.Closing.{closed}
use Rattle.gaps.specs.Gaps.{inserted, replaced}
use Rattle.storing.proofs.Stored.{Stored}
use Rattle.room.proofs.Ways.{put-removes, put-replaces, put-stays, put-inserts, one_fewer, as_many, the_same, one_more}
use Rattle.storing.proofs.Cuts.{inserted-is, closed_is, replaced-is}

abbrev pub Words : Record → Type 0
Words r = (r.key < 2 ^ 256) × (r.value < 2 ^ 256)

pub held : (t t' : Bytes) (used : ℕ) (s : Store) → Formed t → Ascending 0 s → Sized s → length s ≤ room t → t' ≡ bytes (length t) s → used ≡ length s
    → Stored (length t) t' used s
held t t' used s f a v h e q =
    record {
      table = e;
      long = ap length written ∙ length-bytes (64 * room t) s (omega arith) ∙ sym f.long;
      form = rw written (bytes-formed (room t) s a v h f.few);
      stored = rw written (store_bytes (room t) s a v h);
      count = q;
    }
  where
    written : t' ≡ bytes (64 * room t) s
    written = e ∙ ap (λ (n : ℕ). bytes n s) f.long

-- a table that another one is
pub stored-as : {n used : ℕ} {t t' : Bytes} {s : Store} → t' ≡ t → Stored n t used s → Stored n t' used s
stored-as e h = rw e h

record_before-words : (k v : ℕ) (s : Store) → k < 2 ^ 256 → v < 2 ^ 256 → Sized s → Sized (record_before k v s)
unfolding record_before
record_before-words k zero s hk hv z = z
record_before-words k (suc v) s hk hv z = ((hk, hv), z)

-- what `put` requires, and that key and value are bytes
pub record Asked (t key value : Bytes) (used : ℕ) : Type 0 where
  pub form : record_form t ≡ true
  pub count : used ≡ length (store t)
  pub key-size : length key ≡ 32
  pub value-size : length value ≡ 32
  pub key-bytes : AllBytes key
  pub value-bytes : AllBytes value
  pub fits : length (put (store t) (num key) (num value)) ≤ room t

module _ {t key value : Bytes} {used : ℕ} (a : Asked t key value used) where
  s : Store
  s = store t

  k : ℕ
  k = num key

  v : ℕ
  v = num value

  f : Formed t
  f = formed t a.form

  layout : t ≡ record_bytes s ++ replicate (length t - 64 * length s) 0
  unfolding bytes s
  layout = f.layout

  key-is : word k ≡ key
  unfolding k
  key-is = word-num key a.key-size a.key-bytes

  value-is : word v ≡ value
  unfolding v
  value-is = word-num value a.value-size a.value-bytes

  within : 64 * length s ≤ length t
  unfolding s
  within = omega (arith, f.long, f.fits)

  -- these records and zeros behind them are a table that holds the store, where `put` makes these records
  leaves : (i j m : ℕ) (t' : Bytes) (used' : ℕ) (x : Store) → put s k v ≡ take i s ++ record_before k v (drop j s) → put s k v ≡ x
      → t' ≡ record_bytes x ++ replicate m 0 → used' ≡ length (put s k v) → m ≡ length t - 64 * used' → Stored (length t) t' used' (put s k v)
  unfolding bytes s k v
  leaves i j m t' used' x puts q e l h =
      held t t' used' (put s k v) f (put-ascending 0 s k v (omega arith) f.ascends) words a.fits (e ∙ rw (← q, h, l)) l
    where
      words : Sized (put s k v)
      words =
          rw puts
          (every_append Words (take i s) (record_before k v (drop j s)) (every_take Words i s f.words)
          (record_before-words k v (drop j s) (num-bound key a.key-bytes (omega arith)) (num-bound value a.value-bytes (omega arith)) (every_drop Words j s f.words)))

  behind : ℕ
  behind = length t - 64 * length s

  module _ {i : ℕ} where
    pub has-fits : Present (store t) (num key) i → (i < used) × (64 * used ≤ length t)
    unfolding s
    has-fits p = omega (arith, within, p.inside, a.count)

    pub gap-fits : Absent (store t) (num key) i → (i ≤ used) × (64 * used ≤ length t)
    unfolding s
    gap-fits p = omega (arith, within, p.inside, a.count)

    pub gap-takes : Absent (store t) (num key) i → eqb (num value) 0 ≡ false → 64 * used + 64 ≤ length t
    gap-takes p z = omega (arith, one_more (num value) p z, a.fits, f.long, a.count)

    pub removes : Present (store t) (num key) i → eqb (num value) 0 ≡ true
        → Stored (length t) (closed i (i + 1) used t) (used - 1) (put (store t) (num key) (num value))
    unfolding s k v behind
    removes p z =
        leaves i (suc i) (64 * (i + 1) - 64 * i + behind) _ (used - 1) _ (p.puts v) (put-removes v p z)
        (rw (a.count, ← add-one i) (closed_is t s behind layout i (i + 1) (omega arith) (omega (arith, p.inside))))
        (rw a.count (one_fewer v p z))
        (omega (arith, within, p.inside, a.count))

    pub replaces : Present (store t) (num key) i → eqb (num value) 0 ≡ false
        → Stored (length t) (replaced i value t) used (put (store t) (num key) (num value))
    unfolding s k v behind
    replaces p z =
        leaves i (suc i) behind _ used _ (p.puts v) (put-replaces v p z)
        (ap (λ (x : Bytes). replaced i x t) (sym value-is) ∙ replaced-is t s behind layout i k _ v p.inside p.here)
        (rw a.count (as_many v p z))
        (rw a.count)

    pub stays : Absent (store t) (num key) i → eqb (num value) 0 ≡ true → Stored (length t) t used (put (store t) (num key) (num value))
    unfolding s k v behind
    stays p z = leaves i i behind t used s (p.puts v) (put-stays v p z) layout (rw a.count (the_same v p z)) (rw a.count)

    pub inserts : Absent (store t) (num key) i → eqb (num value) 0 ≡ false
        → Stored (length t) (inserted i used key value t) (used + 1) (put (store t) (num key) (num value))
    unfolding s k v behind
    inserts p z =
        let one = one_more v p z in
        let words = ap (λ (x : Bytes). inserted i used x value t) (sym key-is) ∙ ap (λ (x : Bytes). inserted i used (word k) x t) (sym value-is) in
        leaves i i (behind - 64) _ (used + 1) _ (p.puts v) (put-inserts v p z)
        (words ∙ rw a.count (inserted-is t s behind layout i k v p.inside (omega (arith, a.fits, f.long))))
        (rw a.count one)
        (omega (arith, a.count))
