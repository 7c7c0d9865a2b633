-- The tests `record_form` and `sound_table` answer true of exactly the tables that the sentences `RecordForm` and `SoundTable` name.
-- A table of the record form is the bytes of a store and reads as that store, so test and sentence speak of the same records.
use Prim.Native.Nat.{ℕ, zero, suc, ◌*◌, ◌/◌, ◌^◌, ◌≤◌, ◌<◌, ◌%◌}
use native.Mathlib.Omega.{arith}
use native.Mathlib.Nat.{le_trans, lt_of_le_of_lt}
use mathlib.Core.Path.{◌≡◌, refl, sym, ap, ◌∙◌}
use mathlib.Core.Logic.{◌↔◌}
use mathlib.Core.List.{[], ◌∷◌}
use mathlib.Core.Bool.{true, true≢false}
use lib.Dec.{eqb, lit<}
use lib.ListN.{length, take, drop}
use borrow.Author.Tests.{eq-eqb}
use Rattle.rules.specs.Words.{Bytes, AllBytes, num, same_bytes}
use Rattle.rules.specs.Table.{Store, Ascending, Sized, RecordForm, record_size, greatest_table, bytes, room, occupied, store, length_fits, ascending_above, ascending, record_form}
use Rattle.rules.specs.Sound.{SoundTable, sound_table}
use Rattle.laws.proofs.Bools.{if-and, tests-true, true-tests}
use Rattle.laws.proofs.Words.{drop-bytes, first-word-bound}
use Rattle.laws.proofs.Tables.{length-bytes, store_bytes, bytes-are-bytes}
use Rattle.laws.proofs.Procedures.{Good}
use Rattle.laws.proofs.SoundDecides.{sound-true, true-sound}

-- Parts of the record form: ascending records, equal bytes, and the occupied records, which fit the table and are words.
ascending-true : (low : ℕ) (s : Store) → ascending_above low s ≡ true → Ascending low s
unfolding ascending_above
ascending-true low [] q = tt
ascending-true low (r ∷ s) q = (search tests-true, search tests-true, ascending-true (suc r.key) s (search tests-true))

true-ascending : (low : ℕ) (s : Store) → Ascending low s → ascending_above low s ≡ true
unfolding ascending_above
true-ascending low [] a = refl
true-ascending low (r ∷ s) a = let rest = true-ascending (suc r.key) s a.2 in search true-tests

same_bytes-true : (xs ys : Bytes) → same_bytes xs ys ≡ true → xs ≡ ys
unfolding same_bytes
same_bytes-true [] [] q = refl
same_bytes-true [] (y ∷ ys) q = absurd (true≢false (sym q))
same_bytes-true (x ∷ xs) [] q = absurd (true≢false (sym q))
same_bytes-true (x ∷ xs) (y ∷ ys) q =
    let both = sym (if-and (eqb x y) (same_bytes xs ys)) ∙ q in
    let first : x ≡ y = search tests-true in
    let rest = same_bytes-true xs ys (search tests-true) in
    cc

bytes_same : (xs : Bytes) → same_bytes xs xs ≡ true
unfolding same_bytes
bytes_same [] = refl
bytes_same (x ∷ xs) = rw (eq-eqb x x refl, same_bytes) (bytes_same xs)

true-same_bytes : (xs ys : Bytes) → xs ≡ ys → same_bytes xs ys ≡ true
true-same_bytes xs ys q = rw q (bytes_same ys)

occupied-length : (n : ℕ) (t : Bytes) → length (occupied n t) ≤ n
unfolding occupied
occupied-length zero t = omega arith
occupied-length (suc n) t = go (num (take 32 (drop 32 t))) refl (occupied-length n (drop 64 t))
  where
    go : (v : ℕ) → num (take 32 (drop 32 t)) ≡ v → length (occupied n (drop 64 t)) ≤ n → length (occupied (suc n) t) ≤ suc n
    go zero q ih = rw (q, occupied) (omega arith)
    go (suc v) q ih = rw (q, occupied) (omega arith)

occupied-sized : (n : ℕ) (t : Bytes) → AllBytes t → Sized (occupied n t)
unfolding occupied
occupied-sized zero t b = tt
occupied-sized (suc n) t b = go (num (take 32 (drop 32 t))) refl (occupied-sized n (drop 64 t) (drop-bytes 64 t b))
  where
    go : (v : ℕ) → num (take 32 (drop 32 t)) ≡ v → Sized (occupied n (drop 64 t)) → Sized (occupied (suc n) t)
    go zero q ih = rw (q, occupied) tt
    go (suc v) q ih = rw (q, occupied) ((first-word-bound t b, rw q at (first-word-bound (drop 32 t) (drop-bytes 32 t b))), ih)

-- The record form. A table of the record form reads as its records.
store-records : (t : Bytes) (f : RecordForm t) → store t ≡ f.records
store-records t f =
    let long : length t ≡ record_size * room t = unfold room in (omega (arith, f.multiple)) in
    ap store (f.layout ∙ ap (λ (n : ℕ). bytes n f.records) long)
    ∙ store_bytes (room t) f.records f.ascends f.words f.fits

record_form-true : (t : Bytes) → record_form t ≡ true → RecordForm t
unfolding record_form length_fits ascending
record_form-true t q =
    record {
      multiple = search tests-true;
      not_longer = search tests-true;
      records = store t;
      words = unfold store in (occupied-sized (room t) t lent);
      ascends = ascending-true 0 (store t) (search tests-true);
      fits = unfold store in (occupied-length (room t) t);
      layout = written;
    }
  where
    written : t ≡ bytes (length t) (store t)
    written = same_bytes-true t (bytes (length t) (store t)) (search tests-true)

    lent : AllBytes t
    lent = rw written (bytes-are-bytes (length t) (store t))

true-record_form : (t : Bytes) → RecordForm t → record_form t ≡ true
unfolding record_form length_fits ascending
true-record_form t f = rw (store-records t f) (search (true-tests, true-ascending, true-same_bytes))

pub record-form-decides : (t : Bytes) → (record_form t ≡ true) ↔ RecordForm t
record-form-decides t = (record_form-true t, true-record_form t)

-- A sound table in the form that other proofs use: whole records, and the bytes of a good store (`Good`) of words.
-- This and `SoundTable` say the same.
pub record GoodTable (t : Bytes) : Type 0 where
  pub long : length t ≡ record_size * room t
  pub good : Good (room t) (store t)
  pub sized : Sized (store t)
  pub form : t ≡ bytes (length t) (store t)

pub sound-table-good : (t : Bytes) → SoundTable t → GoodTable t
unfolding room
sound-table-good t h =
    record {
      long = omega arith;
      good = record { ascending = rw stored h.form.ascends; fits = rw stored h.form.fits; room = omega arith; sound = h.sound };
      sized = rw stored h.form.words;
      form = rw stored h.form.layout;
    }
  where
    stored : store t ≡ h.form.records
    stored = store-records t h.form

pub good-sound-table : (t : Bytes) → GoodTable t → SoundTable t
unfolding room
good-sound-table t g =
    record {
      form = record {
        multiple = omega arith;
        not_longer = omega arith;
        records = store t;
        words = g.sized;
        ascends = g.good.ascending;
        fits = omega arith;
        layout = g.form;
      };
      sound = g.good.sound;
    }

-- a right length: whole records, at most 1,024
pub whole-records : (t : Bytes) → length_fits t ≡ true → length t ≡ record_size * room t
unfolding length_fits room
whole-records t q = let e : length t % record_size ≡ 0 = search tests-true in omega arith

pub at-most-1024 : (t : Bytes) → length_fits t ≡ true → room t ≤ 1024
unfolding length_fits room
at-most-1024 t q = let e : length t ≤ greatest_table = search tests-true in omega arith

pub length-fits : (t : Bytes) → GoodTable t → length_fits t ≡ true
unfolding length_fits
length-fits t g = let f = (good-sound-table t g).form in let a = f.multiple in let b = f.not_longer in search true-tests

pub good-bytes : (t : Bytes) → GoodTable t → AllBytes t
good-bytes t g = rw g.form (bytes-are-bytes (length t) (store t))

-- Soundness.
pub sound_table-true : (t : Bytes) → sound_table t ≡ true → SoundTable t
unfolding sound_table
sound_table-true t q = search (tests-true, record_form-true, sound-true)

pub true-sound_table : (t : Bytes) → SoundTable t → sound_table t ≡ true
unfolding sound_table
true-sound_table t h =
    let g = (sound-table-good t h).good in
    let few : length (store t) < 2 ^ 192 = lt_of_le_of_lt (le_trans g.fits g.room) (lit< tt) in
    search (true-tests, true-record_form, true-sound (store t) h.sound g.ascending few)

pub sound-decides : (t : Bytes) → (sound_table t ≡ true) ↔ SoundTable t
sound-decides t = (sound_table-true t, true-sound_table t)

pub sound_table-good : (t : Bytes) → sound_table t ≡ true → GoodTable t
sound_table-good t q = sound-table-good t (sound_table-true t q)

pub good-sound_table : (t : Bytes) → GoodTable t → sound_table t ≡ true
good-sound_table t g = true-sound_table t (good-sound-table t g)

-- A good store written to a table of whole records is read back, and the table is good.
module _ (t : Bytes) (s : Store) (long : length t ≡ record_size * room t) (g : Good (room t) s) (z : Sized s) where
  pub written-store : store (bytes (length t) s) ≡ s
  written-store = ap (λ (n : ℕ). store (bytes n s)) long ∙ store_bytes (room t) s g.ascending z g.fits

  pub written-good : GoodTable (bytes (length t) s)
  written-good =
      record {
        long = same_length ∙ long ∙ ap (λ (n : ℕ). record_size * n) (sym same-room);
        good = rw (same-room, written-store) g;
        sized = rw written-store z;
        form = rw written-store (ap (λ (n : ℕ). bytes n s) (sym same_length));
      }
    where
      same_length : length (bytes (length t) s) ≡ length t
      same_length = length-bytes (length t) s (omega arith)

      same-room : room (bytes (length t) s) ≡ room t
      same-room = unfold room in (ap (λ (n : ℕ). n / record_size) same_length)
