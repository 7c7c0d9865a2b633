-- What a guess of a key's place tells. A record that has the key stands at its place; otherwise the record before the guess tells
-- whether the place lies from there on, and the record at the guess whether it lies further on.
use Rattle.std.proofs.Common.{ℕ, suc, ◌*◌, ◌-◌, ◌≤◌, ◌<◌, arith, ◌≡◌, refl, sym, subst, Bool, true, false, eqb, leb, ltb, length, drop, eqb-true, eq-eqb, ne_eqb, ltb-true, ltb-false, leb-true, leb-false, lt-ltb, le-ltb, Ok, Err}
use Rattle.rules.specs.Words.{Bytes, word_at}
use Rattle.rules.specs.Table.{store, Ascending, record_form}
use Rattle.laws.proofs.Bools.{and_left, and_right}
use Rattle.laws.proofs.TableRecords.{record-at, formed}
use Rattle.finding.specs.Finding.{keys_below, place_of, has_key}
use Rattle.finding.proofs.Places.{below_length, ascending-drop, place_after, place-before}
use Rattle.finding.proofs.Finding.{find-has, find-gap}

abbrev place : Bytes → (k : ℕ) → ℕ
place t k = keys_below (store t) k

module _ (t : Bytes) (k i : ℕ) where
  -- whether i is the place, by whether the place lies before i and before i + 1
  pub place-not-past : length (store t) < i → false ≡ eqb (place t k) i
  place-not-past h = sym (ne_eqb (place t k) i (λ e. omega (arith, below_length (store t) k)))

  pub place-not-before : ltb (place t k) i ≡ true → false ≡ eqb (place t k) i
  place-not-before b = let l = ltb-true (place t k) i b in sym (ne_eqb (place t k) i (λ e. omega arith))

  pub place-at-end : ltb (place t k) i ≡ false → i ≡ length (store t) → true ≡ eqb (place t k) i
  place-at-end b e = sym (eq-eqb (place t k) i (omega (arith, ltb-false (place t k) i b, below_length (store t) k)))

module _ (t : Bytes) (k i : ℕ) (q : record_form t ≡ true) where
  pub before_last : 1 ≤ i → i ≤ length (store t) → leb k (word_at t (64 * (i - 1))) ≡ ltb (place t k) i
  before_last l h = go (leb k (word_at t (64 * (i - 1)))) refl
    where
      go : (b : Bool) → leb k (word_at t (64 * (i - 1))) ≡ b → b ≡ ltb (place t k) i
      go true e =
          let before = place-before (store t) k (i - 1) _ _ (record-at t (i - 1) (omega arith)).here (leb-true k _ e) in
          sym (lt-ltb (place t k) i (omega (arith, before)))
      go false e =
          let behind = place_after 0 (store t) k (i - 1) _ _ (formed t q).ascends (record-at t (i - 1) (omega arith)).here (leb-false k _ e) in
          sym (le-ltb (place t k) i (omega (arith, behind)))

  -- a record with the key stands at the key's place: the record before it has a lower key
  has-place : has_key t i k ≡ true → i ≡ place t k
  has-place e = go (leb 1 i) refl
    where
      h : i < length (store t)
      h = ltb-true i (length (store t)) (and_left _ (eqb (word_at t (64 * i)) k) e)

      same : word_at t (64 * i) ≡ k
      same = eqb-true _ k (and_right (ltb i (length (store t))) _ e)

      to : place t k ≤ i
      to = place-before (store t) k i _ _ (record-at t i h).here (omega (arith, same))

      go : (b : Bool) → leb 1 i ≡ b → i ≡ place t k
      go true l =
          let some : 1 ≤ i = leb-true 1 i l in
          let next : suc (i - 1) ≡ i = omega arith in
          let before = record-at t (i - 1) (omega (arith, h)) in
          let from = rw before.here at (ascending-drop 0 (store t) (i - 1) (formed t q).ascends) in
          let here = subst (λ (n : ℕ). Ascending (suc (word_at t (64 * (i - 1)))) (drop n (store t))) next from.2 in
          let lower = rw (record-at t i h).here at here in
          let behind = place_after 0 (store t) k (i - 1) _ _ (formed t q).ascends before.here (omega (arith, lower.0, same)) in
          omega (arith, behind, to)
      go false l = omega (arith, to, leb-false 1 i l)

  pub near-has : has_key t i k ≡ true → Ok i ≡ place_of (store t) k
  near-has e = find-has t k i q (has-place e) e

  pub near-gap : has_key t i k ≡ false → eqb (place t k) i ≡ true → Err i ≡ place_of (store t) k
  near-gap d e = find-gap t k i q (sym (eqb-true (place t k) i e)) d
