-- A table record by record: the i-th occupied record is the two words at byte 64 i, and a table is the bytes of its occupied
-- records and then the rest, whatever its bytes are. What the test of the record form says of a table and its store, and back.
use Prim.Native.Nat.{ℕ, zero, suc, ◌+◌, ◌*◌, ◌≤◌, ◌<◌}
use native.Mathlib.Omega.{arith}
use mathlib.Core.Path.{◌≡◌, refl, ap, ◌∙◌}
use mathlib.Core.List.{[], ◌∷◌, ◌++◌, append_assoc}
use mathlib.Core.Bool.{true}
use lib.ListN.{length, take, drop, length-append, length-drop, take-append-drop}
use lib.Seq.{drop-drop, length-take-le}
use Rattle.rules.specs.Words.{Bytes, AllBytes, num, word, word_at}
use Rattle.rules.specs.Table.{Store, ◌holds◌, Ascending, Sized, RecordForm, record_bytes, bytes, room, occupied, store, record_form}
use Rattle.laws.proofs.Words.{take-bytes, drop-bytes}
use Rattle.laws.proofs.Numerals.{word-num}
use Rattle.laws.proofs.Tables.{length-records, length-bytes, store_bytes, bytes-are-bytes}
use Rattle.laws.proofs.TableDecides.{record-form-decides}

-- the bytes of two stores, one behind the other
pub records-append : (a b : Store) → record_bytes (a ++ b) ≡ record_bytes a ++ record_bytes b
unfolding record_bytes
records-append [] b = refl
records-append (r ∷ a) b = rw (records-append a b) (simp append_assoc)

-- the i-th record of a store that a table holds
pub record Stands (t : Bytes) (s : Store) (i : ℕ) : Type 0 where
  pub here : drop i s ≡ word_at t (64 * i) holds word_at t (64 * i + 32) ∷ drop (suc i) s
  pub present : 1 ≤ word_at t (64 * i + 32)

behind-record : (t : Bytes) (a b : ℕ) → 64 + a ≡ b → drop a (drop 64 t) ≡ drop b t
behind-record t a b e = drop-drop a 64 t ∙ ap (λ (n : ℕ). drop n t) e

occupied-at : (n i : ℕ) (t : Bytes) → i < length (occupied n t) → Stands t (occupied n t) i
unfolding occupied word_at
occupied-at zero i t h = absurd (omega arith)
occupied-at (suc n) i t h = go (num (take 32 (drop 32 t))) refl i h (λ j. occupied-at n j rest)
  where
    rest : Bytes
    rest = drop 64 t

    go : (v : ℕ) → num (take 32 (drop 32 t)) ≡ v → (i : ℕ) → i < length (occupied (suc n) t)
        → ((j : ℕ) → j < length (occupied n rest) → Stands rest (occupied n rest) j) → Stands t (occupied (suc n) t) i
    go zero q i l later = absurd (let none = rw (q, occupied) at l in omega arith)
    go (suc v) q zero l later = record { here = rw (q, occupied); present = rw q (omega arith) }
    go (suc v) q (suc j) l later =
        let inside : suc j < suc (length (occupied n rest)) = rw (q, occupied) at l in
        let key = behind-record t (64 * j) (64 * suc j) (omega arith) in
        let value = behind-record t (64 * j + 32) (64 * suc j + 32) (omega arith) in
        let stands = later j (omega arith) in
        record { here = rw (q, occupied) (rw (← key, ← value) stands.here); present = rw (← value) stands.present }

pub record-at : (t : Bytes) (i : ℕ) → i < length (store t) → Stands t (store t) i
unfolding store
record-at t i h = occupied-at (room t) i t h

-- the occupied records, and what is behind them, make the table
occupied-rest : (n : ℕ) (t : Bytes) → 64 * n ≤ length t → AllBytes t → record_bytes (occupied n t) ++ drop (64 * length (occupied n t)) t ≡ t
unfolding occupied record_bytes
occupied-rest zero t h v = refl
occupied-rest (suc n) t h v = go (num value) refl (occupied-rest n rest (simp length-drop (omega arith)) (drop-bytes 64 t v))
  where
    key : Bytes
    key = take 32 t

    value : Bytes
    value = take 32 (drop 32 t)

    rest : Bytes
    rest = drop 64 t

    key-is : word (num key) ≡ key
    key-is = word-num key (length-take-le 32 t (omega arith)) (take-bytes 32 t v)

    value-is : word (num value) ≡ value
    value-is = word-num value (length-take-le 32 (drop 32 t) (simp length-drop (omega arith))) (take-bytes 32 (drop 32 t) (drop-bytes 32 t v))

    go : (x : ℕ) → num value ≡ x → record_bytes (occupied n rest) ++ drop (64 * length (occupied n rest)) rest ≡ rest
        → record_bytes (occupied (suc n) t) ++ drop (64 * length (occupied (suc n) t)) t ≡ t
    go zero q later = rw (q, occupied)
    go (suc x) q later =
        let s = occupied n rest in
        let behind = behind-record t (64 * length s) (64 * suc (length s)) (omega arith) in
        rw (q, occupied)
        (rw (key-is, ← q, value-is, ← behind, append_assoc, append_assoc, later, ← drop-drop 32 32 t, take-append-drop, take-append-drop))

pub records-rest : (t : Bytes) → AllBytes t → record_bytes (store t) ++ drop (64 * length (store t)) t ≡ t
unfolding store room
records-rest t v = occupied-rest (room t) t (omega arith) v

pub store-within : (t : Bytes) → AllBytes t → 64 * length (store t) ≤ length t
store-within t v = omega (arith, simp length-append at (ap length (records-rest t v)), length-records (store t))

-- A table of the record form, as facts about its store.
pub record Formed (t : Bytes) : Type 0 where
  pub long : length t ≡ 64 * room t
  pub few : room t ≤ 1024
  pub ascends : Ascending 0 (store t)
  pub words : Sized (store t)
  pub fits : length (store t) ≤ room t
  pub layout : t ≡ bytes (length t) (store t)

pub formed : (t : Bytes) → record_form t ≡ true → Formed t
unfolding room
formed t q =
    record {
      long = long;
      few = omega (arith, f.not_longer);
      ascends = rw stored f.ascends;
      words = rw stored f.words;
      fits = rw stored f.fits;
      layout = rw stored f.layout;
    }
  where
    f : RecordForm t
    f = (record-form-decides t).0 q

    long : length t ≡ 64 * room t
    long = omega (arith, f.multiple)

    stored : store t ≡ f.records
    stored = ap store (f.layout ∙ ap (λ (n : ℕ). bytes n f.records) long) ∙ store_bytes (room t) f.records f.ascends f.words f.fits

pub formed-bytes : (t : Bytes) → Formed t → AllBytes t
formed-bytes t f = rw f.layout (bytes-are-bytes (length t) (store t))

pub formed-within : (t : Bytes) → record_form t ≡ true → 64 * length (store t) ≤ length t
formed-within t q = let f = formed t q in omega (arith, f.long, f.fits)

pub bytes-formed : (n : ℕ) (s : Store) → Ascending 0 s → Sized s → length s ≤ n → n ≤ 1024 → record_form (bytes (64 * n) s) ≡ true
unfolding room
bytes-formed n s a v h l =
    (record-form-decides (bytes (64 * n) s)).1
    (record {
      multiple = omega (arith, long);
      not_longer = omega (arith, long);
      records = s;
      words = v;
      ascends = a;
      fits = omega (arith, long);
      layout = rw long refl;
    })
  where
    long : length (bytes (64 * n) s) ≡ 64 * n
    long = length-bytes (64 * n) s (omega arith)
