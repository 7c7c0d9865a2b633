-- The four ways of `put`: what it makes of the store, and how many records that are.
use Rattle.std.proofs.Common.{ℕ, suc, ◌+◌, ◌-◌, arith, ◌≡◌, ap, ◌∙◌, ◌∷◌, ◌++◌, true, false, eqb, length, take, drop, length-append, length-take, length-drop, take-append-drop, eqb-true}
use borrow.Author.Tests.{eqb-false}
use Rattle.rules.specs.Table.{Store, ◌holds◌, put, record_before}
use Rattle.laws.proofs.Stores.{record_before-present}
use Rattle.finding.proofs.Places.{Present, Absent}

record_before-none : (k v : ℕ) (s : Store) → eqb v 0 ≡ true → record_before k v s ≡ s
unfolding record_before
record_before-none k v s q = rw (eqb-true v 0 q)

record_before-some : (k v : ℕ) (s : Store) → eqb v 0 ≡ false → record_before k v s ≡ k holds v ∷ s
record_before-some k v s q = record_before-present k v s (omega (arith, eqb-false v 0 q))

module _ {s : Store} {k i : ℕ} (v : ℕ) (p : Present s k i) where
  pub put-removes : eqb v 0 ≡ true → put s k v ≡ take i s ++ drop (suc i) s
  put-removes z = p.puts v ∙ ap (λ (x : Store). take i s ++ x) (record_before-none k v (drop (suc i) s) z)

  pub put-replaces : eqb v 0 ≡ false → put s k v ≡ take i s ++ (k holds v ∷ drop (suc i) s)
  put-replaces z = p.puts v ∙ ap (λ (x : Store). take i s ++ x) (record_before-some k v (drop (suc i) s) z)

  pub one_fewer : eqb v 0 ≡ true → length s - 1 ≡ length (put s k v)
  one_fewer z = rw (put-removes z) (simp (length-append, length-take, length-drop) (omega (arith, p.inside)))

  pub as_many : eqb v 0 ≡ false → length s ≡ length (put s k v)
  as_many z = rw (put-replaces z) (simp (length-append, length-take, length-drop) (omega (arith, p.inside)))

module _ {s : Store} {k i : ℕ} (v : ℕ) (p : Absent s k i) where
  pub put-stays : eqb v 0 ≡ true → put s k v ≡ s
  put-stays z = p.puts v ∙ ap (λ (x : Store). take i s ++ x) (record_before-none k v (drop i s) z) ∙ take-append-drop i s

  pub put-inserts : eqb v 0 ≡ false → put s k v ≡ take i s ++ (k holds v ∷ drop i s)
  put-inserts z = p.puts v ∙ ap (λ (x : Store). take i s ++ x) (record_before-some k v (drop i s) z)

  pub the_same : eqb v 0 ≡ true → length s ≡ length (put s k v)
  the_same z = rw (put-stays z)

  pub one_more : eqb v 0 ≡ false → length s + 1 ≡ length (put s k v)
  one_more z = rw (put-inserts z) (simp (length-append, length-take, length-drop) (omega (arith, p.inside)))
