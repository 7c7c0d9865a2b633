-- What `find` and `look` read of a table: the i-th record of its store is the two words at byte 64 i. At a key's place one comparison
-- tells whether the key is there.
use Rattle.std.proofs.Common.{ℕ, ◌+◌, ◌*◌, ◌≤◌, ◌<◌, arith, ◌≡◌, refl, sym, ap, ◌∙◌, true, false, eqb, ltb, length, take, drop, replicate, length-take, length-drop, eqb-true, eq-eqb, ltb-true, lt-ltb, Result, Ok, Err}
use Rattle.rules.specs.Words.{Bytes, AllBytes, word_at, word, bytes_of, bytes_before}
use Rattle.rules.specs.Table.{Record, ◌holds◌, Store, get, store, record_form}
use Rattle.laws.proofs.Bools.{and_left, and_right, and_both}
use Rattle.laws.proofs.TableRecords.{record-at, formed, formed-within, formed-bytes}
use Rattle.laws.proofs.Numerals.{word-num}
use Rattle.laws.proofs.Words.{take-bytes, drop-bytes}
use Rattle.finding.specs.Finding.{keys_below, place_of, has_key}
use Rattle.finding.proofs.Places.{Present, Absent, Standing, present, absent, standing, place-has, place-gap}

-- what the answer of `find` tells
abbrev Told : Store → (k : ℕ) → Result ℕ ℕ → Type 0
Told s k (Ok i) = Present s k i
Told s k (Err i) = Absent s k i

told : (t : Bytes) (k : ℕ) → record_form t ≡ true → Told (store t) k (place_of (store t) k)
told t k q = go (standing (store t) k (formed t q).ascends)
  where
    go : Standing (store t) k (keys_below (store t) k) → Told (store t) k (place_of (store t) k)
    go (present p) = rw (place-has p) p
    go (absent p) = rw (place-gap p) p

module _ (t : Bytes) (k : ℕ) {i : ℕ} {p : Result ℕ ℕ} (q : record_form t ≡ true) (e : p ≡ place_of (store t) k) where
  pub found : p ≡ Ok i → Present (store t) k i
  found h = let there : place_of (store t) k ≡ Ok i = sym e ∙ h in rw there at (told t k q)

  pub missed : p ≡ Err i → Absent (store t) k i
  missed h = let there : place_of (store t) k ≡ Err i = sym e ∙ h in rw there at (told t k q)

-- where a search has a key, its record lies within the table
pub found-inside : (t : Bytes) (k : ℕ) {i : ℕ} → record_form t ≡ true → Ok i ≡ place_of (store t) k → 64 * i + 64 ≤ length t
found-inside t k {i} q e = omega (arith, formed-within t q, (found t k {i = i} q e refl).inside)

-- the words at a key's record
record_is : (t : Bytes) (k i : ℕ) → Present (store t) k i → word_at t (64 * i) holds word_at t (64 * i + 32) ≡ k holds get (store t) k
record_is t k i p = cc ((record-at t i p.inside).here, p.here)

-- the place as `find` tests it
module _ (t : Bytes) (k i : ℕ) (q : record_form t ≡ true) (at : i ≡ keys_below (store t) k) where
  stands : Standing (store t) k i
  stands = rw at (standing (store t) k (formed t q).ascends)

  pub find-has : has_key t i k ≡ true → Ok i ≡ place_of (store t) k
  find-has e = go stands
    where
      h : i < length (store t)
      h = ltb-true i (length (store t)) (and_left _ (eqb (word_at t (64 * i)) k) e)

      same : word_at t (64 * i) ≡ k
      same = eqb-true _ k (and_right (ltb i (length (store t))) _ e)

      go : Standing (store t) k i → Ok i ≡ place_of (store t) k
      go (present p) = sym (place-has p)
      go (absent p) = absurd (let higher = rw (record-at t i h).here at p.higher in omega (arith, higher.0, same))

  pub find-gap : has_key t i k ≡ false → Err i ≡ place_of (store t) k
  find-gap d = go stands
    where
      has : Present (store t) k i → has_key t i k ≡ true
      has p =
          let same : word_at t (64 * i) ≡ k = ap (λ (r : Record). r.key) (record_is t k i p) in
          and_both _ _ (lt-ltb i _ p.inside) (eq-eqb _ k same)

      go : Standing (store t) k i → Err i ≡ place_of (store t) k
      go (present p) = let yes = has p in let z : ◌≡◌ {A = ℕ} 0 1 = cc in absurd (omega arith)
      go (absent p) = sym (place-gap p)

-- what `look` answers
pub look-present : (t : Bytes) (k i : ℕ) → record_form t ≡ true → Present (store t) k i → take 32 (drop (64 * i + 32) t) ≡ word (get (store t) k)
unfolding word_at
look-present t k i q p =
    sym (word-num value (simp (length-take, length-drop) (omega (arith, p.inside, formed-within t q))) lent)
    ∙ ap (λ (r : Record). word r.value) (record_is t k i p)
  where
    value : Bytes
    value = take 32 (drop (64 * i + 32) t)

    lent : AllBytes value
    lent = take-bytes 32 (drop (64 * i + 32) t) (drop-bytes (64 * i + 32) t (formed-bytes t (formed t q)))

pub look-absent : {s : Store} {k i : ℕ} → Absent s k i → replicate 32 0 ≡ word (get s k)
unfolding word bytes_of bytes_before
look-absent p = rw p.none
