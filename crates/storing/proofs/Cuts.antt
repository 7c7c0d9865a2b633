-- A table is its records' bytes and then zeros. It can be cut at every record, so what moving bytes leaves of it is again the
-- bytes of records and then zeros: of those with one put in, of those without some, of those with another value. Where room is made
-- zeros stand between them too.
use Rattle.std.proofs.Common.{ℕ, suc, ◌+◌, ◌*◌, ◌-◌, ◌≤◌, ◌<◌, arith, ◌≡◌, sym, ap, ◌∙◌, ◌∷◌, ◌++◌, append_assoc, length, take, drop, replicate, length-append, length-drop, take-append-drop, take_at, drop_at, drop-drop, length-take-le}
use lib.ListN.{length-replicate, replicate-append-replicate}
use Rattle.rules.specs.Words.{Bytes, word}
use Rattle.rules.specs.Table.{Store, ◌holds◌, record_bytes}
use Rattle.laws.proofs.Words.{length-word}
use Rattle.laws.proofs.Tables.{length-records}
use Rattle.laws.proofs.TableRecords.{records-append}
use Rattle.closing.specs.Closing.{closed}
use Rattle.gaps.specs.Gaps.{inserted, replaced, opened}

zeros : ℕ → Bytes
zeros n = replicate n 0

drop-zeros : (n m : ℕ) → n ≤ m → drop n (zeros m) ≡ zeros (m - n)
unfolding zeros
drop-zeros n m h =
    let e : m ≡ n + (m - n) = omega arith in
    ap (λ (k : ℕ). drop n (zeros k)) e
    ∙ rw (← replicate-append-replicate {A = ℕ} n (m - n) 0) (drop_at (zeros n) (zeros (m - n)) n (length-replicate {A = ℕ} n 0))

module _ (t : Bytes) (s : Store) (m i : ℕ) (e : t ≡ record_bytes s ++ replicate m 0) (h : i ≤ length s) where
  cut : t ≡ record_bytes (take i s) ++ (record_bytes (drop i s) ++ replicate m 0)
  cut =
      e ∙ ap (λ (x : Store). record_bytes x ++ replicate m 0) (sym (take-append-drop i s))
      ∙ rw (records-append (take i s) (drop i s)) (append_assoc (record_bytes (take i s)) (record_bytes (drop i s)) (replicate m 0))

  front_length : length (record_bytes (take i s)) ≡ 64 * i
  front_length = length-records (take i s) ∙ rw (length-take-le i s h)

  take-cut : take (64 * i) t ≡ record_bytes (take i s)
  take-cut = rw cut (take_at (record_bytes (take i s)) (record_bytes (drop i s) ++ replicate m 0) (64 * i) front_length)

  drop-cut : drop (64 * i) t ≡ record_bytes (drop i s) ++ replicate m 0
  drop-cut = rw cut (drop_at (record_bytes (take i s)) (record_bytes (drop i s) ++ replicate m 0) (64 * i) front_length)

  back_cut : take (64 * length s - 64 * i) (drop (64 * i) t) ≡ record_bytes (drop i s)
  back_cut =
      let long : length (record_bytes (drop i s)) ≡ 64 * length s - 64 * i = length-records (drop i s) ∙ rw (length-drop i s) (omega arith) in
      rw drop-cut (take_at (record_bytes (drop i s)) (replicate m 0) (64 * length s - 64 * i) long)

module _ (t : Bytes) (s : Store) (m : ℕ) (e : t ≡ record_bytes s ++ replicate m 0) where
  rest-cut : drop (64 * length s) t ≡ replicate m 0
  rest-cut = rw e (drop_at (record_bytes s) (replicate m 0) (64 * length s) (length-records s))

  pub inserted-is : (i : ℕ) (k v : ℕ) → i ≤ length s → 64 ≤ m
      → inserted i (length s) (word k) (word v) t ≡ record_bytes (take i s ++ (k holds v ∷ drop i s)) ++ replicate (m - 64) 0
  unfolding inserted record_bytes zeros
  inserted-is i k v h l =
      let behind : drop (64 * length s + 64) t ≡ replicate (m - 64) 0 = sym (drop-drop 64 (64 * length s) t) ∙ rw rest-cut (drop-zeros 64 m l) in
      rw (take-cut t s m i e h, back_cut t s m i e h, behind, records-append (take i s) (k holds v ∷ drop i s)) (simp append_assoc)

  pub opened-is : (i n : ℕ) → i ≤ length s → 64 * n ≤ m
      → opened i n (length s) t ≡ record_bytes (take i s) ++ (replicate (64 * n) 0 ++ (record_bytes (drop i s) ++ replicate (m - 64 * n) 0))
  unfolding opened zeros
  opened-is i n h l =
      let behind : drop (64 * length s + 64 * n) t ≡ replicate (m - 64 * n) 0
      = sym (drop-drop (64 * n) (64 * length s) t) ∙ rw rest-cut (drop-zeros (64 * n) m l) in
      rw (take-cut t s m i e h, back_cut t s m i e h, behind)

  pub closed_is : (i j : ℕ) → i ≤ j → j ≤ length s
      → closed i j (length s) t ≡ record_bytes (take i s ++ drop j s) ++ replicate (64 * j - 64 * i + m) 0
  unfolding closed
  closed_is i j h l =
      let less : i ≤ length s = omega arith in
      rw (take-cut t s m i e less, back_cut t s m j e l, rest-cut, replicate-append-replicate {A = ℕ} (64 * j - 64 * i) m 0, records-append (take i s) (drop j s)) (simp append_assoc)

  pub replaced-is : (i k old v : ℕ) → i < length s → drop i s ≡ k holds old ∷ drop (suc i) s
      → replaced i (word v) t ≡ record_bytes (take i s ++ (k holds v ∷ drop (suc i) s)) ++ replicate m 0
  unfolding replaced record_bytes
  replaced-is i k old v h q =
      rw (to-key, behind, records-append (take i s) (k holds v ∷ drop (suc i) s)) (simp append_assoc)
    where
      front : Bytes
      front = record_bytes (take i s)

      back : Bytes
      back = record_bytes (drop (suc i) s) ++ replicate m 0

      there : drop (64 * i) t ≡ word k ++ (word old ++ back)
      there = drop-cut t s m i e (omega arith) ∙ ap (λ (x : Store). record_bytes x ++ replicate m 0) q ∙ simp append_assoc

      whole : t ≡ (front ++ word k) ++ (word old ++ back)
      whole = sym (take-append-drop (64 * i) t) ∙ rw (take-cut t s m i e (omega arith), there) (sym (append_assoc front (word k) (word old ++ back)))

      to-key : take (64 * i + 32) t ≡ front ++ word k
      to-key =
          let long : length (front ++ word k) ≡ 64 * i + 32 = simp length-append (omega (arith, front_length t s m i e (omega arith), length-word k)) in
          rw whole (take_at (front ++ word k) (word old ++ back) (64 * i + 32) long)

      behind : drop (64 * i + 64) t ≡ back
      behind = let next : 64 * i + 64 ≡ 64 * suc i = omega arith in rw next (drop-cut t s m (suc i) e h)
