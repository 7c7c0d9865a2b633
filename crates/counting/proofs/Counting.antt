-- The loops that count what is not zero: over the words of a capability, and over the requests. Each keeps that what it has
-- counted and what is left make up the whole. Last, the types that are requested.
use Rattle.std.proofs.Common.{ℕ, suc, ◌+◌, ◌-◌, ◌/◌, ◌≤◌, ◌<◌, ◌≡◌, refl, sym, ap, ◌∙◌, List, [], ◌∷◌, ◌++◌, length, take, drop, Bool, true, false, not, eqb, cond, count_by, arith, length-append, take_all, drop_of_length-le}
use Rattle.std.proofs.lemmas.List.{take-append-le, drop-append-le}
use Rattle.rules.specs.Words.{Bytes, num, words}
use Rattle.rules.specs.Capabilities.{call, register, delete, set_entry, write, kinds, word_count}
use Rattle.rules.specs.Messages.{Request, requests, requested_of}
use Rattle.laws.proofs.KindFacts.{word_count-small}
use Rattle.series.specs.Series.{left, bytes_left, FirstLeft, requested_counts}
use Rattle.series.specs.declared.Request.{Request as Found}
use Rattle.series.specs.declared.Series.{Series}
use Rattle.series.proofs.Counted.{types-counts}
use Rattle.counting.specs.Counting.{taken_if, taken_by, words_taken, requests_taken, kinds_taken, WordsTaken}

-- the words of bytes, as many as are whole
abbrev whole : Bytes → List ℕ
whole bs = words (length bs / 32) bs

first-word : (word rest : Bytes) → length word ≡ 32 → whole (word ++ rest) ≡ num word ∷ whole rest
unfolding words
first-word word rest h =
    let long = length-append word rest in
    let one : length (word ++ rest) / 32 ≡ suc (length rest / 32) = omega (arith, long, h) in
    let past : length word ≤ 32 = omega (arith, h) in
    let front : take 32 (word ++ rest) ≡ word =
    take-append-le 32 word rest (omega (arith, h)) ∙ take_all 32 word (omega (arith, h)) in
    let back : drop 32 (word ++ rest) ≡ rest =
    drop-append-le 32 word rest (omega (arith, h)) ∙ ap (λ (x : Bytes). x ++ rest) (drop_of_length-le word past) in
    rw (one, front, back)

-- The words, of which those that are left are yet to count.
pub record CountingWords (bs : Bytes) (size total : ℕ) (rest : Bytes) : Type 0 where
  pub of_words : size ≡ 32
  pub small : total + length rest / 32 ≤ length bs / 32
  pub left : words_taken (whole bs) ≡ total + words_taken (whole rest)

-- a word is counted, or passed over
module _ {bs : Bytes} {size total : ℕ} {rest : Bytes} (w : CountingWords bs size total rest) (word more : Bytes)
    (e : rest ≡ word ++ more) (h : length word ≡ size) {size' : ℕ} (same : size' ≡ size) where
  next-word : words_taken (whole rest) ≡ taken_by (num word) + words_taken (whole more)
  unfolding words_taken
  next-word = ap (λ (x : Bytes). words_taken (whole x)) e ∙ ap words_taken (first-word word more (h ∙ w.of_words))

  shorter : suc (length more / 32) ≡ length rest / 32
  shorter = omega (arith, ap length e ∙ length-append word more, h, w.of_words)

  pub counted-word : false ≡ eqb (num word) 0 → CountingWords bs size' (total + 1) more
  unfolding taken_by
  counted-word z =
      let one : taken_by (num word) ≡ 1 = ap taken_if (sym z) in
      record {
        of_words = same ∙ w.of_words;
        small = omega (arith, w.small, shorter);
        left = omega (arith, w.left, next-word, one);
      }

  pub passed-word : true ≡ eqb (num word) 0 → CountingWords bs size' total more
  unfolding taken_by
  passed-word z =
      let none : taken_by (num word) ≡ 0 = ap taken_if (sym z) in
      record {
        of_words = same ∙ w.of_words;
        small = omega (arith, w.small, shorter);
        left = omega (arith, w.left, next-word, none);
      }

pub counted_words : {bs : Bytes} {size total : ℕ} {rest : Bytes} → CountingWords bs size total rest → length rest < size
    → WordsTaken bs total
unfolding words words_taken
counted_words {bs} {size} {total} {rest} w h =
    let none : length rest / 32 ≡ 0 = omega (arith, w.of_words) in
    let left : words_taken (whole bs) ≡ total + 0 = rw none at w.left in
    record { is = omega arith; small = omega (arith, w.small) }

-- The requests, of which those that are left are yet to count. A request has at least 64 bytes and at most two words.
pub record CountingRequests (d : Bytes) (it : Series) (total : ℕ) : Type 0 where
  pub low : total + bytes_left it ≤ length d
  pub left : requests_taken (requests d) ≡ total + requests_taken (left it)

pub counted-request : {d : Bytes} {it more : Series} {total x : ℕ} {r : Found} → CountingRequests d it total → FirstLeft it r more
    → WordsTaken r.words.now x → CountingRequests d more (total + x)
unfolding requests_taken
counted-request {d} {it} {more} {total} {x} {r} w q c =
    let count : length r.words.now / 32 ≡ word_count q.request.kind = omega (arith, q.size) in
    let this : x ≡ words_taken q.request.capability =
    c.is ∙ ap (λ (n : ℕ). words_taken (words n r.words.now)) count ∙ ap words_taken (sym q.capability) in
    let next = ap requests_taken q.first in
    record {
      low = omega (arith, w.low, c.small, count, word_count-small q.request.kind, q.bytes);
      left = omega (arith, w.left, this, next);
    }

pub counted-requests : {d : Bytes} {it : Series} {total : ℕ} → CountingRequests d it total → left it ≡ []
    → (total ≡ requests_taken (requests d)) × (total ≤ length d)
unfolding requests_taken
counted-requests w e = (let none = ap requests_taken e in omega (arith, w.left, none), omega (arith, w.low))

-- how often a count of no capability is left out
one-count : (v : ℕ) → (cond (not (eqb v 0)) 1 0 ≡ taken_by v) × (taken_by v ≤ 1)
unfolding taken_by
one-count v = go (eqb v 0) refl
  where
    go : (b : Bool) → eqb v 0 ≡ b → (cond (not (eqb v 0)) 1 0 ≡ taken_by v) × (taken_by v ≤ 1)
    go true q = rw (q, taken_by) (refl, omega arith)
    go false q = rw (q, taken_by) (refl, omega arith)

-- the types that are requested are the counts from Call's on that are not zero
pub counted-kinds : (rs : List Request) {counts : List ℕ} {from r : ℕ} → counts ≡ requested_counts rs → from ≡ 3
    → r ≡ count_by (λ x. not (eqb x 0)) (take (length counts - from) (drop from counts))
    → (r ≡ kinds_taken rs kinds) × (r ≤ 5)
unfolding requested_counts kinds_taken
counted-kinds rs e first q =
    let all = q ∙ ap (count_by (λ x. not (eqb x 0))) (types-counts rs e first) in
    let c = one-count (length (requested_of call rs)) in
    let g = one-count (length (requested_of register rs)) in
    let d = one-count (length (requested_of delete rs)) in
    let s = one-count (length (requested_of set_entry rs)) in
    let w = one-count (length (requested_of write rs)) in
    (omega (arith, all, c.0, g.0, d.0, s.0, w.0), omega (arith, all, c.0, g.0, d.0, s.0, w.0, c.1, g.1, d.1, s.1, w.1))
