-- A procedure's records stand together: their keys are those from its first slot to its last. So the store without them is
-- what stands before the first slot's place and what stands behind the last slot's.
use Rattle.std.proofs.Common.{ℕ, zero, suc, ◌+◌, ◌*◌, ◌/◌, ◌-◌, ◌^◌, ◌≤◌, ◌<◌, arith, ◌≡◌, refl, sym, ap, ◌∙◌, [], ◌∷◌, ◌++◌, true, false, lit<, length, take, drop, length-append, length-take, length-drop, eq-eqb, ne_eqb}
use lib.Seq.{drop-nil}
use Rattle.rules.specs.Words.{Bytes}
use Rattle.rules.specs.Table.{Store, Record, Ascending, bytes, store, record_form}
use Rattle.rules.specs.KernelStorage.{kernel_mark, slot, ending, address_slot}
use Rattle.rules.specs.Calls.{of_procedure, without_procedure}
use Rattle.laws.proofs.Lists.{every_append, every_take, every_drop}
use Rattle.laws.proofs.Numbers.{digits_div}
use Rattle.laws.proofs.Stores.{ascending-lower}
use Rattle.laws.proofs.TableRecords.{Formed, formed, formed-within}
use Rattle.finding.specs.Finding.{keys_below}
use Rattle.finding.proofs.Places.{below_or_not, below-past, below-here, below_none, below_length, ascending-drop}
use Rattle.closing.specs.Closing.{closed}
use Rattle.storing.proofs.Stored.{Stored}
use Rattle.storing.proofs.Cuts.{closed_is}
use Rattle.storing.proofs.Puts.{Words, held}

-- which keys are a procedure's
front : ℕ → ℕ
front p = (kernel_mark * 256 + 0) * 256 ^ 24 + p

of-front : (p k : ℕ) → address_slot p / 256 ^ 3 ≡ front p
unfolding front address_slot slot ending
of-front p k = digits_div (256 ^ 3) (front p) 0 (lit< tt)

abbrev pub first : ℕ → ℕ
first p = slot 0 p (ending 0 0 0)

abbrev pub last : ℕ → ℕ
last p = slot 0 p (ending 255 255 255)

inside : (f k : ℕ) → f * 16777216 + 0 ≤ k → k < f * 16777216 + 16777215 + 1 → k / 16777216 ≡ f
inside f k h l = omega arith

outside_low : (f k : ℕ) → k < f * 16777216 + 0 → k / 16777216 ≡ f → ⊥
outside_low f k h q = omega arith

outside_high : (f k : ℕ) → f * 16777216 + 16777215 + 1 ≤ k → k / 16777216 ≡ f → ⊥
outside_high f k h q = omega arith

some-between : (f : ℕ) → f * 16777216 + 0 ≤ f * 16777216 + 16777215 + 1
some-between f = omega arith

module _ (p : ℕ) where
  of-mine : (k : ℕ) → first p ≤ k → k < last p + 1 → of_procedure p k ≡ true
  unfolding of_procedure slot ending front
  of-mine k h l = eq-eqb _ _ (inside (front p) k h l ∙ sym (of-front p k))

  of-lower : (k : ℕ) → k < first p → of_procedure p k ≡ false
  unfolding of_procedure slot ending front
  of-lower k h = ne_eqb _ _ (λ q. outside_low (front p) k h (q ∙ of-front p k))

  of-higher : (k : ℕ) → last p + 1 ≤ k → of_procedure p k ≡ false
  unfolding of_procedure slot ending front
  of-higher k h = ne_eqb _ _ (λ q. outside_high (front p) k h (q ∙ of-front p k))

  ordered : first p ≤ last p + 1
  unfolding slot ending front
  ordered = some-between (front p)

  without-keeps : (r : Record) (s : Store) → of_procedure p r.key ≡ false → without_procedure p (r ∷ s) ≡ r ∷ without_procedure p s
  unfolding without_procedure
  without-keeps r s q = rw (q, without_procedure)

  without-drops : (r : Record) (s : Store) → of_procedure p r.key ≡ true → without_procedure p (r ∷ s) ≡ without_procedure p s
  unfolding without_procedure
  without-drops r s q = rw (q, without_procedure)

  pub without_is : (low : ℕ) (s : Store) → Ascending low s → without_procedure p s ≡ take (keys_below s (first p)) s ++ drop (keys_below s (last p + 1)) s
  unfolding without_procedure keys_below
  without_is low [] a = refl
  without_is low (r ∷ s) a =
      let later = without_is (suc r.key) s a.2 in
      let between = ordered in
      below_or_not r (first p)
      (λ h. rw (below-past r s (first p) h, below-past r s (last p + 1) (omega arith)) (without-keeps r s (of-lower r.key h) ∙ ap (λ (x : Store). r ∷ x) later))
      (λ h.
      let none = below_none s (first p) (ascending-lower (first p) (suc r.key) s (omega arith) a.2) in
      below_or_not r (last p + 1)
      (λ l. rw (below-here r s (first p) h, below-past r s (last p + 1) l) (without-drops r s (of-mine r.key h l) ∙ later ∙ rw none))
      (λ l.
      let nor = below_none s (last p + 1) (ascending-lower (last p + 1) (suc r.key) s (omega arith) a.2) in
      rw (below-here r s (first p) h, below-here r s (last p + 1) l)
      (without-keeps r s (of-higher r.key l) ∙ ap (λ (x : Store). r ∷ x) (later ∙ rw (none, nor)))))

-- a lower key has no more keys below it
below-grows : (s : Store) (a b : ℕ) → a ≤ b → keys_below s a ≤ keys_below s b
unfolding keys_below
below-grows [] a b h = omega arith
below-grows (r ∷ s) a b h =
    let later = below-grows s a b h in
    below_or_not r a
    (λ l. rw (below-past r s a l, below-past r s b (omega arith)) (omega arith))
    (λ l. rw (below-here r s a l) (omega arith))

-- a store stays ascending without some records that stand together
ascending-closed : (low : ℕ) (s : Store) (i j : ℕ) → i ≤ j → Ascending low s → Ascending low (take i s ++ drop j s)
ascending-closed low s zero j h a = ascending-drop low s j a
ascending-closed low [] (suc i) j h a = rw (drop-nil j) tt
ascending-closed low (r ∷ s) (suc i) zero h a = absurd (omega arith)
ascending-closed low (r ∷ s) (suc i) (suc j) h a = (a.0, a.1, ascending-closed (suc r.key) s i j (omega arith) a.2)

-- what `remove_procedure` knows once it has found the two places
pub record Bounds (t : Bytes) (p used i j : ℕ) : Type 0 where
  pub form : record_form t ≡ true
  pub count : used ≡ length (store t)
  pub from : i ≡ keys_below (store t) (first p)
  pub to : j ≡ keys_below (store t) (last p + 1)

module _ {t : Bytes} {p used i j : ℕ} (c : Bounds t p used i j) where
  pub bounds-fit : (i ≤ j) × (j ≤ used) × (64 * used ≤ length t)
  bounds-fit =
      let less = below-grows (store t) (first p) (last p + 1) (ordered p) in
      let short = below_length (store t) (last p + 1) in
      omega (arith, formed-within t c.form, c.count, c.from, c.to)

  pub closes : Stored (length t) (closed i j used t) (used - (j - i)) (without_procedure p (store t))
  unfolding bytes
  closes =
      rw (without_is p 0 s f.ascends, ← c.from, ← c.to)
      (held t (closed i j used t) (used - (j - i)) (take i s ++ drop j s) f
      (ascending-closed 0 s i j fit.0 f.ascends)
      (every_append Words (take i s) (drop j s) (every_take Words i s f.words) (every_drop Words j s f.words))
      (omega (arith, many, f.fits, c.count))
      (rw c.count (closed_is t s (length t - 64 * length s) f.layout i j fit.0 (omega (arith, fit, c.count)) ∙ rw zeros))
      (sym many))
    where
      s : Store
      s = store t

      f : Formed t
      f = formed t c.form

      fit : (i ≤ j) × (j ≤ used) × (64 * used ≤ length t)
      fit = bounds-fit

      many : length (take i s ++ drop j s) ≡ used - (j - i)
      many = simp (length-append, length-take, length-drop) (omega (arith, fit, c.count))

      zeros : 64 * j - 64 * i + (length t - 64 * length s) ≡ length t - 64 * length (take i s ++ drop j s)
      zeros = omega (arith, many, fit, c.count)
