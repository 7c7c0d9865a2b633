-- The records of a table as chunks of 64 bytes: those with a lower key come first, so the first that has none is the key's place.
use Rattle.std.proofs.Common.{ℕ, zero, suc, ◌+◌, ◌*◌, ◌/◌, ◌<◌, ◌≤◌, arith, ◌≡◌, refl, sym, ap, ◌∙◌, Bool, true, false, List, [], ltb, length, get_or, take, drop, drop-drop, take-take, get_or-take, length-take-le}
use Rattle.std.specs.Simd.{first_chunks}
use Rattle.std.specs.List.Sorted.{IsPartitionedBy, IsPartitionPoint}
use Rattle.std.specs.List.{AllWithin}
use Rattle.rules.specs.Words.{Bytes, num, word_at}
use Rattle.rules.specs.Table.{store, record_form}
use Rattle.laws.proofs.TableRecords.{record-at, formed, formed-within}
use Rattle.finding.specs.Finding.{keys_below}
use Rattle.finding.proofs.Places.{below_length, place_after, place-before}
use borrow.Author.Tests.{ltb-true, ltb-false}

chunk_at : (n : ℕ) (t : Bytes) (i : ℕ) (d : Bytes) → i < n → get_or (first_chunks 64 n t) i d ≡ take 64 (drop (64 * i) t)
chunk_at zero t i d h = absurd (omega arith)
chunk_at (suc n) t zero d h = refl
chunk_at (suc n) t (suc i) d h =
    let step : 64 + 64 * i ≡ 64 * suc i = omega arith in
    chunk_at n (drop 64 t) i d (omega arith) ∙ ap (take 64) (drop-drop (64 * i) 64 t) ∙ rw step

chunks_length : (n : ℕ) (t : Bytes) → length (first_chunks 64 n t) ≡ n
chunks_length zero t = refl
chunks_length (suc n) t = ap suc (chunks_length n (drop 64 t))

-- the occupied records
abbrev pub records : Bytes → (used : ℕ) → List Bytes
records t used = take used (first_chunks 64 (length t / 64) t)

abbrev pub lower : (k : ℕ) → Bytes → Bool
lower k r = ltb (num (take 32 r)) k

module _ (t : Bytes) {used : ℕ} (k : ℕ) (q : record_form t ≡ true) (c : used ≡ length (store t)) where
  room : used ≤ length t / 64
  room = omega (arith, formed-within t q)

  pub records_length : length (records t used) ≡ used
  records_length = length-take-le used (first_chunks 64 (length t / 64) t) (omega (arith, chunks_length (length t / 64) t, room))

  key_at : (i : ℕ) (d : Bytes) → i < used → num (take 32 (get_or (records t used) i d)) ≡ word_at t (64 * i)
  unfolding word_at
  key_at i d h =
      ap (λ (x : Bytes). num (take 32 x)) (get_or-take used (first_chunks 64 (length t / 64) t) i d h ∙ chunk_at (length t / 64) t i d (omega (arith, room)))
      ∙ ap num (take-take 32 64 (drop (64 * i) t) (omega arith))

  before : (i : ℕ) (d : Bytes) → i < used → lower k (get_or (records t used) i d) ≡ true → i < keys_below (store t) k
  before i d h e =
      let low : word_at t (64 * i) < k = ltb-true _ k (ap (λ (x : ℕ). ltb x k) (sym (key_at i d h)) ∙ e) in
      place_after 0 (store t) k i _ _ (formed t q).ascends (record-at t i (omega arith)).here low

  behind : (i : ℕ) (d : Bytes) → i < used → lower k (get_or (records t used) i d) ≡ false → keys_below (store t) k ≤ i
  behind i d h e =
      let high : k ≤ word_at t (64 * i) = ltb-false _ k (ap (λ (x : ℕ). ltb x k) (sym (key_at i d h)) ∙ e) in
      place-before (store t) k i _ _ (record-at t i (omega arith)).here high

  pub parted : IsPartitionedBy (lower k) (records t used)
  parted i j d h l e = go (lower k (get_or (records t used) i d)) refl
    where
      l' : j < used
      l' = omega (arith, records_length)

      go : (b : Bool) → lower k (get_or (records t used) i d) ≡ b → lower k (get_or (records t used) i d) ≡ true
      go true z = z
      go false z = absurd (omega (arith, before j d l' e, behind i d (omega (arith, l')) z))

  pub place_is : (n : ℕ) → n ≤ length (records t used)
      → IsPartitionPoint (λ (r : Bytes). lower k r ≡ true) (λ (r : Bytes). lower k r ≡ false) (records t used) n → n ≡ keys_below (store t) k
  place_is n h p = omega (arith, from n h p.0, to)
    where
      from : (m : ℕ) → m ≤ length (records t used) → AllWithin (λ (r : Bytes). lower k r ≡ true) (records t used) 0 m → m ≤ keys_below (store t) k
      from zero l a = omega arith
      from (suc m) l a = before m [] (omega (arith, records_length)) (a m [] (omega arith) (omega arith))

      to : keys_below (store t) k ≤ n
      to = go (ltb n used) refl
        where
          go : (b : Bool) → ltb n used ≡ b → keys_below (store t) k ≤ n
          go true z = let inside = ltb-true n used z in behind n [] inside (p.1 n [] (omega arith) (omega (arith, records_length)))
          go false z = omega (arith, ltb-false n used z, below_length (store t) k)
