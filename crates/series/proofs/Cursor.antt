-- The first request of a well-formed series: it is good, so the last byte of its CapType is its type's number,
-- and the next request begins behind its words.
use Rattle.std.proofs.Common.{ℕ, zero, suc, ◌+◌, ◌*◌, ◌≤◌, ◌<◌, ◌≡◌, refl, sym, ap, ◌∙◌, ◌∷◌, length, take, drop, get_or, arith, subst, length-drop, length-take-le, take-take}
use Rattle.std.proofs.lemmas.List.{drop-take}
use Rattle.rules.specs.Words.{Bytes, num, word_at, words}
use Rattle.rules.specs.Capabilities.{Kind, number, word_count}
use Rattle.rules.specs.Source.{words_of}
use Rattle.laws.proofs.KindFacts.{kind_of-number, kind_of-some, number_small}
use Rattle.laws.proofs.WordParts.{last_byte}
use Rattle.requests.specs.Requests.{WellFormed, request_of_kind}
use Rattle.series.specs.Series.{FirstRequest, FirstLeft}
use Rattle.series.specs.declared.Series.{Series}
use Rattle.series.specs.declared.Request.{Request}
use Rattle.requests.proofs.Types.{named-words}
use Rattle.requests.proofs.Here.{Good}
use Rattle.requests.proofs.Steps.{First, first, Follows, follows, series-good, well-formed-whole, well-formed-first}

type-byte : (rest : Bytes) (kind : Kind) → Good rest kind → get_or rest 63 0 ≡ number kind
type-byte rest kind g =
    let w = kind_of-some (word_at rest 32) kind g.type in
    let small = number_small kind in
    let last = last_byte rest 32 (omega (arith, g.within)) in
    omega (arith, w, small, last)

module _ (rest : Bytes) (w : WellFormed rest) (l : 0 < length rest) where
  pub head-within : 64 ≤ length rest
  head-within = go (well-formed-first rest w l)
    where
      go : First rest → 64 ≤ length rest
      go (first kind g) = omega (arith, g.within)

  pub words-within : (k : ℕ) → k ≡ words_of (get_or rest 63 0) → 64 + 32 * k ≤ length rest
  words-within k e = go (well-formed-first rest w l)
    where
      go : First rest → 64 + 32 * k ≤ length rest
      go (first kind g) =
          let count = e ∙ ap words_of (type-byte rest kind g) ∙ named-words (number kind) kind (kind_of-number kind) in
          omega (arith, count, g.within)

  -- what the code reads there, if the type has k words
  pub request-is : (k : ℕ) → k ≡ words_of (get_or rest 63 0) → (r : Request) → r.kind.0 ≡ get_or rest 63 0
      → r.words.now ≡ take (32 * k) (drop 64 rest) → FirstRequest rest r
  request-is k e r named_by part = go (well-formed-first rest w l)
    where
      go : First rest → FirstRequest rest r
      go (first kind g) =
          let byte = type-byte rest kind g in
          let count : k ≡ word_count kind = e ∙ ap words_of byte ∙ named-words (number kind) kind (kind_of-number kind) in
          let part' : r.words.now ≡ take (32 * word_count kind) (drop 64 rest) = rw count at part in
          let long : 32 * word_count kind ≤ length (drop 64 rest) = omega (arith, g.within, length-drop 64 rest) in
          let size : length r.words.now ≡ 32 * word_count kind =
          ap length part' ∙ length-take-le (32 * word_count kind) (drop 64 rest) long in
          let after : Follows rest (request_of_kind rest kind) (drop (64 + length r.words.now) rest) =
          subst (λ (n : ℕ). Follows rest (request_of_kind rest kind) (drop (64 + n) rest)) (sym size)
          (follows rest (request_of_kind rest kind) (drop (64 + 32 * word_count kind) rest) w
          (series-good rest kind (well-formed-whole rest w) g)) in
          record {
            kind = kind;
            type = named_by ∙ byte;
            words = part';
            size = size;
            within = omega (arith, size, g.within);
            in_range = g.in_range;
            first = after.requests;
            well_formed = after.well_formed;
          }

-- the words of bytes are those of as many of the bytes
words-part : (n : ℕ) (bs : Bytes) → words n (take (32 * n) bs) ≡ words n bs
unfolding words
words-part zero bs = refl
words-part (suc n) bs =
    let long : 32 * suc n ≡ 32 + 32 * n = omega arith in
    let first = take-take 32 (32 + 32 * n) bs (omega arith) in
    let others = drop-take 32 (32 * n) bs in
    rw (long, first, others) (ap (λ ws. num (take 32 bs) ∷ ws) (words-part n (drop 32 bs)))

-- a request that is given is the first that was left, and none is left at the end
pub first-left : (it : Series) {r : Request} → FirstRequest it.rest.now r → (more : Series)
    → more.rest.now ≡ drop (64 + length r.words.now) it.rest.now → FirstLeft it r more
first-left it {r} q more e =
    record {
      request = request_of_kind it.rest.now q.kind;
      type = q.type;
      size = q.size;
      in_range = q.in_range;
      capability = sym (ap (words (word_count q.kind)) q.words ∙ words-part (word_count q.kind) (drop 64 it.rest.now));
      first = rw e q.first;
      bytes = omega (arith, q.within, ap length e, length-drop (64 + length r.words.now) it.rest.now);
    }
