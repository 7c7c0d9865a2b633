-- Whether a table has the record form. `run` passes the occupied records and compares neighbouring keys: its invariant says what is
-- left of the count and of the ascent. The last test is that the bytes behind the records stand for zero.
use Rattle.std.proofs.Common.{ℕ, zero, suc, ◌+◌, ◌*◌, ◌/◌, ◌%◌, ◌-◌, ◌≤◌, ◌<◌, arith, ◌≡◌, refl, sym, ap, ◌∙◌, [], ◌∷◌, ◌++◌, Bool, true, false, ◌&&◌, eqb, ltb, length, take, drop, replicate, length-drop, drop_of_length-le, drop-drop, take_all, eqb-true, eq-eqb, ne_eqb, le-leb, lt-ltb, ltb-true, ltb-false, Option, None, Some}
use borrow.Author.Tests.{eqb-false, lt-leb}
use Rattle.rules.specs.Words.{Bytes, AllBytes, num_after, num, word_at, same_bytes}
use Rattle.rules.specs.Table.{Store, Record, ◌holds◌, record_bytes, bytes, room, occupied, store, length_fits, ascending_above, ascending, record_form}
use Rattle.laws.proofs.Numerals.{num-zero}
use Rattle.laws.proofs.Words.{drop-bytes}
use Rattle.laws.proofs.TableRecords.{records-rest, record-at, store-within}
use Rattle.table.specs.Tables.{climbs_at, run_of, form_of}

-- Counting the occupied records: i of n are passed.
pub record Counted (t : Bytes) (n i : ℕ) : Type 0 where
  pub fits : 64 * n ≤ length t
  pub inside : i ≤ n
  pub left : length (store t) ≡ i + length (occupied (n - i) (drop (64 * i) t))

count-starts : (t : Bytes) → Counted t (length t / 64) 0
unfolding store room
count-starts t =
    let none : length t / 64 - 0 ≡ length t / 64 = omega arith in
    record { fits = omega arith; inside = omega arith; left = rw none (omega arith) }

module _ {t : Bytes} {n i : ℕ} (c : Counted t n i) where
  one_more : i < n → n - i ≡ suc (n - (i + 1))
  one_more h = omega arith

  value-is : num (take 32 (drop 32 (drop (64 * i) t))) ≡ word_at t (64 * i + 32)
  unfolding word_at
  value-is = rw (drop-drop 32 (64 * i) t)

  count-stops : i < n → eqb (word_at t (64 * i + 32)) 0 ≡ true → i ≡ length (store t)
  unfolding occupied
  count-stops h q = omega (arith, c.left, none)
    where
      none : length (occupied (n - i) (drop (64 * i) t)) ≡ 0
      none = rw (one_more h) (rw (value-is ∙ eqb-true _ 0 q, occupied))

  count-turns : i < n → eqb (word_at t (64 * i + 32)) 0 ≡ false → Counted t n (i + 1)
  unfolding occupied
  count-turns h d = record { fits = c.fits; inside = omega arith; left = omega (arith, c.left, go (word_at t (64 * i + 32)) refl) }
    where
      step : 64 * i + 64 ≡ 64 * (i + 1)
      step = omega arith

      go : (v : ℕ) → word_at t (64 * i + 32) ≡ v → length (occupied (n - i) (drop (64 * i) t)) ≡ suc (length (occupied (n - (i + 1)) (drop (64 * (i + 1)) t)))
      go zero q = absurd (eqb-false _ 0 d q)
      go (suc v) q = rw (one_more h, ← step, ← drop-drop 64 (64 * i) t) (rw (value-is ∙ q, occupied))

  count-ends : n ≤ i → n ≡ length (store t)
  unfolding occupied
  count-ends h = let none : n - i ≡ 0 = omega arith in omega (arith, c.inside, rw none at c.left)

ascends-here : (low : ℕ) (r : Record) (s : Store) → low ≤ r.key → 1 ≤ r.value → ascending_above low (r ∷ s) ≡ ascending_above (suc r.key) s
unfolding ascending_above
ascends-here low r s h l = rw (le-leb low r.key h, lt-ltb 0 r.value l)

ascends-not : (low : ℕ) (r : Record) (s : Store) → r.key < low → ascending_above low (r ∷ s) ≡ false
unfolding ascending_above
ascends-not low r s h = rw (lt-leb low r.key h)

module _ (t : Bytes) where
  key : ℕ → ℕ
  key j = word_at t (64 * j)

  value : ℕ → ℕ
  value j = word_at t (64 * j + 32)

  -- from a record on
  ascends-from : (j : ℕ) → j < length (store t) → ascending (drop j (store t)) ≡ ascending_above (suc (key j)) (drop (suc j) (store t))
  unfolding ascending key value
  ascends-from j h =
      let r = record-at t j h in
      ap (ascending_above 0) r.here ∙ ascends-here 0 (key j holds value j) (drop (suc j) (store t)) (omega arith) r.present

  ascends-next : (j : ℕ) → suc j < length (store t) → ascending (drop j (store t)) ≡ ascending_above (suc (key j)) (key (suc j) holds value (suc j) ∷ drop (suc (suc j)) (store t))
  unfolding key value
  ascends-next j h = ascends-from j (omega arith) ∙ rw (record-at t (suc j) h).here

  -- the key at i and the one before it
  pub climbs-first : {i : ℕ} → i ≡ 0 → true ≡ climbs_at t i
  unfolding climbs_at
  climbs-first e = rw e

  pub climbs-later : (i : ℕ) → (i ≡ 0 → ⊥) → ltb (word_at t (64 * (i - 1))) (word_at t (64 * i)) ≡ climbs_at t i
  unfolding climbs_at
  climbs-later zero d = absurd (d refl)
  climbs-later (suc j) d = let before : suc j - 1 ≡ j = omega arith in rw before

  climbs-on : (i : ℕ) → i < length (store t) → ascending (store t) ≡ ascending (drop (i - 1) (store t)) → climbs_at t i ≡ true
      → ascending (store t) ≡ ascending (drop i (store t))
  unfolding climbs_at key value
  climbs-on zero h s l = refl
  climbs-on (suc j) h s l =
      let before : suc j - 1 ≡ j = omega arith in
      let high = ltb-true (key j) (key (suc j)) l in
      rw before at s
      ∙ ascends-next j h
      ∙ ascends-here (suc (key j)) (key (suc j) holds value (suc j)) (drop (suc (suc j)) (store t)) high (record-at t (suc j) h).present
      ∙ sym (ascends-from (suc j) h)

  climbs-not : (i : ℕ) → i < length (store t) → ascending (store t) ≡ ascending (drop (i - 1) (store t)) → climbs_at t i ≡ false → ascending (store t) ≡ false
  unfolding climbs_at key value
  climbs-not zero h s l = let z : ◌≡◌ {A = ℕ} 0 1 = cc in absurd (omega arith)
  climbs-not (suc j) h s l =
      let before : suc j - 1 ≡ j = omega arith in
      let low = ltb-false (key j) (key (suc j)) l in
      rw before at s
      ∙ ascends-next j h
      ∙ ascends-not (suc (key j)) (key (suc j) holds value (suc j)) (drop (suc (suc j)) (store t)) (omega arith)

-- Walking over the records: i of n are passed, they are occupied, and their keys ascend.
pub record Run (t : Bytes) (n i : ℕ) : Type 0 where
  pub counted : Counted t n i
  pub climbed : ascending (store t) ≡ ascending (drop (i - 1) (store t))

pub run-starts : (t : Bytes) → Run t (length t / 64) 0
run-starts t = record { counted = count-starts t; climbed = refl }

module _ {t : Bytes} {n i : ℕ} (s : Run t n i) where
  -- the occupied records end here
  run_ends : i ≡ length (store t) → Some i ≡ run_of t
  unfolding run_of ascending ascending_above
  run_ends e = ap Some e ∙ sym (rw (s.climbed ∙ go (drop (i - 1) (store t)) refl, run_of))
    where
      go : (d : Store) → drop (i - 1) (store t) ≡ d → ascending d ≡ true
      go [] q = refl
      go (r ∷ d) q =
          let inside : i - 1 < length (store t) = omega (arith, ap length q, length-drop (i - 1) (store t)) in
          let past : length (store t) ≤ suc (i - 1) = omega arith in
          sym (ap ascending q) ∙ ascends-from t (i - 1) inside ∙ rw (drop_of_length-le (store t) past)

  pub run-stops : i < n → eqb (word_at t (64 * i + 32)) 0 ≡ true → Some i ≡ run_of t
  run-stops h z = run_ends (count-stops s.counted h z)

  pub run-ends-full : n ≤ i → Some n ≡ run_of t
  run-ends-full h =
      let all : n ≡ i = omega (arith, s.counted.inside) in
      rw all (run_ends (sym all ∙ count-ends s.counted h))

  -- the record here is occupied
  module _ (h : i < n) (z : eqb (word_at t (64 * i + 32)) 0 ≡ false) where
    next : Counted t n (i + 1)
    next = count-turns s.counted h z

    inside : i < length (store t)
    inside = omega (arith, next.left)

    pub run-turns : climbs_at t i ≡ true → Run t n (i + 1)
    run-turns l =
        let here : i + 1 - 1 ≡ i = omega arith in
        record { counted = next; climbed = rw here (climbs-on t i inside s.climbed l) }

    pub run-falls : climbs_at t i ≡ false → None ≡ run_of t
    unfolding run_of
    run-falls l = sym (rw (climbs-not t i inside s.climbed l, run_of))

-- The record form of a table of the right length: its keys ascend, and the bytes behind its records stand for zero.
same-front : (a b c : Bytes) → same_bytes (a ++ b) (a ++ c) ≡ same_bytes b c
unfolding same_bytes
same-front [] b c = refl
same-front (x ∷ a) b c = rw (eq-eqb x x refl, same_bytes) (same-front a b c)

same-zeros : (bs : Bytes) → AllBytes bs → same_bytes bs (replicate (length bs) 0) ≡ eqb (num bs) 0
unfolding same_bytes num num_after
same-zeros [] v = refl
same-zeros (b ∷ bs) v = go (eqb b 0) refl (same-zeros bs v.1)
  where
    go : (x : Bool) → eqb b 0 ≡ x → same_bytes bs (replicate (length bs) 0) ≡ eqb (num bs) 0
        → same_bytes (b ∷ bs) (replicate (length (b ∷ bs)) 0) ≡ eqb (num (b ∷ bs)) 0
    go true q later = rw (eqb-true b 0 q, same_bytes) later
    go false q later =
        let some : num (b ∷ bs) ≡ 0 → ⊥ = λ z. eqb-false b 0 q (let same = num-zero (b ∷ bs) v z in cc) in
        rw (q, same_bytes) (sym (ne_eqb (num (b ∷ bs)) 0 some))

form-fits : (t : Bytes) → AllBytes t → length t % 64 ≡ 0 → length t ≤ 65536
    → record_form t ≡ (ascending (store t) && eqb (num (drop (64 * length (store t)) t)) 0)
unfolding record_form length_fits bytes
form-fits t v h l = rw (eq-eqb (length t % 64) 0 h, le-leb (length t) 65536 l) (ap (λ (x : Bool). ascending (store t) && x) rest)
  where
    behind : Bytes
    behind = drop (64 * length (store t)) t

    left : length t - 64 * length (store t) ≡ length behind
    left = sym (length-drop (64 * length (store t)) t)

    rest : same_bytes t (record_bytes (store t) ++ replicate (length t - 64 * length (store t)) 0) ≡ eqb (num behind) 0
    rest =
        ap (λ (x : Bytes). same_bytes x (record_bytes (store t) ++ replicate (length t - 64 * length (store t)) 0)) (sym (records-rest t v))
        ∙ same-front (record_bytes (store t)) behind (replicate (length t - 64 * length (store t)) 0)
        ∙ rw left (same-zeros behind (drop-bytes (64 * length (store t)) t v))

pub form-not-whole : (t : Bytes) → (length t % 64 ≡ 0 → ⊥) → record_form t ≡ false
unfolding record_form length_fits
form-not-whole t d = rw (ne_eqb (length t % 64) 0 d)

pub form-too-long : (t : Bytes) → length t % 64 ≡ 0 → 65536 < length t → record_form t ≡ false
unfolding record_form length_fits
form-too-long t h l = rw (eq-eqb (length t % 64) 0 h, lt-leb (length t) 65536 l)

-- the answer of `form_of`
pub form-bad : (t : Bytes) → record_form t ≡ false → None ≡ form_of t
unfolding form_of
form-bad t q = sym (rw (q, form_of))

-- what the answer of `run` says of the table and of the number in it
module _ (t : Bytes) {r : Option ℕ} (e : r ≡ run_of t) where
  run-ascends : {n : ℕ} → r ≡ Some n → ascending (store t) ≡ true
  unfolding run_of
  run-ascends h = go (ascending (store t)) refl
    where
      go : (b : Bool) → ascending (store t) ≡ b → ascending (store t) ≡ true
      go true q = q
      go false q = let bad : run_of t ≡ None = rw (q, run_of) in let z : ◌≡◌ {A = ℕ} 0 1 = cc in absurd (omega arith)

  run-count : {n : ℕ} → r ≡ Some n → n ≡ length (store t)
  unfolding run_of
  run-count h = let good : run_of t ≡ Some (length (store t)) = rw (run-ascends h, run_of) in cc

  run-bad : r ≡ None → ascending (store t) ≡ false
  unfolding run_of
  run-bad h = go (ascending (store t)) refl
    where
      go : (b : Bool) → ascending (store t) ≡ b → ascending (store t) ≡ false
      go true q = let good : run_of t ≡ Some (length (store t)) = rw (q, run_of) in let z : ◌≡◌ {A = ℕ} 0 1 = cc in absurd (omega arith)
      go false q = q

-- a table of the right length
pub record Sized (t : Bytes) : Type 0 where
  pub lent : AllBytes t
  pub whole : length t % 64 ≡ 0
  pub short : length t ≤ 65536

module _ {t : Bytes} (m : Sized t) {r : Option ℕ} (e : r ≡ run_of t) where
  pub form-unsorted : r ≡ None → None ≡ form_of t
  form-unsorted h = form-bad t (form-fits t m.lent m.whole m.short ∙ rw (run-bad t e h))

  -- its keys ascend, and `used` records are occupied
  module _ {used : ℕ} (h : r ≡ Some used) where
    pub used-within : 64 * used ≤ length t
    used-within = omega (arith, store-within t m.lent, run-count t e h)

    abbrev behind : Bytes
    behind = take (length t - 64 * used) (drop (64 * used) t)

    behind-is : behind ≡ drop (64 * length (store t)) t
    behind-is = take_all (length t - 64 * used) (drop (64 * used) t) (simp length-drop (omega arith)) ∙ rw (run-count t e h)

    form-is : record_form t ≡ eqb (num behind) 0
    form-is = form-fits t m.lent m.whole m.short ∙ rw (run-ascends t e h, behind-is)

    pub form-unclean : eqb (num behind) 0 ≡ false → None ≡ form_of t
    form-unclean z = form-bad t (form-is ∙ z)

    pub form-used : eqb (num behind) 0 ≡ true → Some used ≡ form_of t
    unfolding form_of
    form-used z = let good : record_form t ≡ true = form-is ∙ z in ap Some (run-count t e h) ∙ sym (rw (good, form_of))

-- for callers: what the answer of `form_of` says of the table and of the number in it
module _ (t : Bytes) {r : Option ℕ} (e : r ≡ form_of t) where
  pub used-form : {n : ℕ} → r ≡ Some n → record_form t ≡ true
  used-form h = go (record_form t) refl
    where
      go : (b : Bool) → record_form t ≡ b → record_form t ≡ true
      go true q = q
      go false q = let bad = form-bad t q in let z : ◌≡◌ {A = ℕ} 0 1 = cc in absurd (omega arith)

  pub used-count : {n : ℕ} → r ≡ Some n → n ≡ length (store t)
  unfolding form_of
  used-count h = let good : form_of t ≡ Some (length (store t)) = rw (used-form h, form_of) in cc

  pub bad-form : r ≡ None → record_form t ≡ false
  unfolding form_of
  bad-form h = go (record_form t) refl
    where
      go : (b : Bool) → record_form t ≡ b → record_form t ≡ false
      go true q = let good : form_of t ≡ Some (length (store t)) = rw (q, form_of) in let z : ◌≡◌ {A = ℕ} 0 1 = cc in absurd (omega arith)
      go false q = q
