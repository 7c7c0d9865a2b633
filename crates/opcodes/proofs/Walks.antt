-- The walk from an index on. Data bytes are dropped, so a walk that stands at index i is the walk of `drop i code` with nothing to skip,
-- and what it finds there is the opcode at i and the walk behind its data. Opcodes that are allowed and push nothing are walked through.
use Prim.Native.Nat.{ℕ, zero, suc, ◌+◌, ◌-◌, ◌≤◌, ◌<◌}
use native.Mathlib.Omega.{arith}
use mathlib.Core.Path.{◌≡◌, refl, sym, ap, ◌∙◌}
use mathlib.Core.List.{[], ◌∷◌}
use mathlib.Core.Bool.{Bool, true, false, ◌&&◌}
use borrow.Author.Tests.{leb-true, eqb-true}
use lib.Dec.{leb}
use lib.ListN.{length, get_or, take, drop, drop_of_length-le}
use lib.Seq.{drop-cons}
use Rattle.rules.specs.Words.{Bytes}
use Rattle.rules.specs.Validation.{allowed, data_bytes, walk}
use Rattle.std.specs.List.{position, position_or_len}
use Rattle.std.proofs.Common.{not, ◌||◌, ltb, ltb-true, ltb-false, cond, Some, None, eqb}
use Rattle.laws.proofs.Bools.{if-and, and_right}
use Rattle.laws.proofs.WordParts.{rest_part}

-- no opcode has more than 32 data bytes
data-bound : (k : ℕ) → data_bytes k ≤ 32
unfolding data_bytes
data-bound k = go (leb 0x60 k && leb k 0x7f) refl
  where
    go : (b : Bool) → (leb 0x60 k && leb k 0x7f) ≡ b → (elim b [ true ↦ k - 0x5f | false ↦ 0 ]) ≤ 32
    go true e = let h = leb-true k 0x7f (and_right (leb 0x60 k) _ e) in omega arith
    go false e = omega arith

pub data-most : {n : ℕ} (k : ℕ) → n ≡ data_bytes k → n ≤ 32
data-most k e = let h = data-bound k in omega arith

-- skipped bytes are dropped
walk-skips : (mask : Bytes) (n : ℕ) (code : Bytes) → walk mask n code ≡ walk mask 0 (drop n code)
unfolding walk
walk-skips mask zero [] = refl
walk-skips mask (suc n) [] = refl
walk-skips mask zero (k ∷ rest) = refl
walk-skips mask (suc n) (b ∷ rest) = walk-skips mask n rest

walk-opcode : (mask : Bytes) (k : ℕ) (rest : Bytes) → walk mask 0 (k ∷ rest) ≡ (allowed mask k && walk mask 0 (drop (data_bytes k) rest))
unfolding walk
walk-opcode mask k rest = if-and (allowed mask k) _ ∙ ap (λ x. allowed mask k && x) (walk-skips mask (data_bytes k) rest)

-- the walk at an index within the code: what is left begins with the opcode there
walk_at : (mask code : Bytes) (i : ℕ) → i < length code
    → walk mask 0 (drop i code) ≡ (allowed mask (get_or code i 0) && walk mask 0 (drop (1 + data_bytes (get_or code i 0)) (drop i code)))
walk_at mask code i h =
    let k = get_or code i 0 in
    let next : 1 + data_bytes k ≡ suc (data_bytes k) = omega arith in
    rw (drop-cons code i 0 h, next) (walk-opcode mask k (drop (suc i) code))

-- an opcode that pushes data or is not allowed
abbrev pub other : Bytes → ℕ → Bool
other mask k = not (eqb (data_bytes k) 0) || not (allowed mask k)

-- the opcodes before the first such one are walked through
plain-front : (mask code : Bytes) → walk mask 0 code ≡ walk mask 0 (drop (position_or_len (other mask) code) code)
unfolding walk
plain-front mask [] = refl
plain-front mask (k ∷ rest) = go (eqb (data_bytes k) 0) (allowed mask k) refl refl (plain-front mask rest)
  where
    go : (b c : Bool) → eqb (data_bytes k) 0 ≡ b → allowed mask k ≡ c
        → walk mask 0 rest ≡ walk mask 0 (drop (position_or_len (other mask) rest) rest)
        → walk mask 0 (k ∷ rest) ≡ walk mask 0 (drop (position_or_len (other mask) (k ∷ rest)) (k ∷ rest))
    go true true e f h =
        let none = eqb-true (data_bytes k) 0 e in
        let next : 1 + position_or_len (other mask) rest ≡ suc (position_or_len (other mask) rest) = omega arith in
        walk-opcode mask k rest ∙ rw (e, f, none, next) h
    go true false e f h = rw (e, f) refl
    go false _ e f h = rw e refl

pub walked_to : (mask code : Bytes) (i : ℕ) → position (other mask) code ≡ Some i → (i < length code) × (walk mask 0 code ≡ walk mask 0 (drop i code))
walked_to mask code i e = go (ltb (position_or_len (other mask) code) (length code)) refl e
  where
    go : (b : Bool) → ltb (position_or_len (other mask) code) (length code) ≡ b
        → cond b (Some (position_or_len (other mask) code)) None ≡ Some i → (i < length code) × (walk mask 0 code ≡ walk mask 0 (drop i code))
    go true h q = let is : position_or_len (other mask) code ≡ i = cc in rw (← is) (ltb-true _ _ h, plain-front mask code)
    go false h q = cc

pub walked_through : (mask code : Bytes) → position (other mask) code ≡ None → true ≡ walk mask 0 code
unfolding walk
walked_through mask code e = go (ltb (position_or_len (other mask) code) (length code)) refl e
  where
    go : (b : Bool) → ltb (position_or_len (other mask) code) (length code) ≡ b
        → cond b (Some (position_or_len (other mask) code)) None ≡ None → true ≡ walk mask 0 code
    go true h q = cc
    go false h q = sym (plain-front mask code ∙ rw (drop_of_length-le code (ltb-false _ _ h)))

-- the walk at the first such opcode, which is allowed, goes on behind its data, and else fails
module _ (mask code : Bytes) {i : ℕ} (first : position (other mask) code ≡ Some i) where
  pub walked_more : true ≡ allowed mask (get_or code i 0) → {n : ℕ} → n ≡ data_bytes (get_or code i 0)
      → {next : Bytes} → next ≡ drop (1 + n) (take (length code - i) (drop i code)) → walk mask 0 code ≡ walk mask 0 next
  walked_more a p q =
      let to = walked_to mask code i first in
      to.1 ∙ walk_at mask code i to.0 ∙ rw (q, p, rest_part, ← a) refl

  -- its data are cut by the end of the code
  pub walked_cut : true ≡ allowed mask (get_or code i 0) → {n : ℕ} → n ≡ data_bytes (get_or code i 0)
      → [] ≡ drop (1 + n) (take (length code - i) (drop i code)) → true ≡ walk mask 0 code
  unfolding walk
  walked_cut a p q = sym (walked_more a p q)

  pub walked_stop : false ≡ allowed mask (get_or code i 0) → walk mask 0 code ≡ false
  walked_stop a =
      let to = walked_to mask code i first in
      to.1 ∙ walk_at mask code i to.0 ∙ rw (← a) refl
