-- A series: behind a good first request it goes on with the rest, and with a malformed one it is none.
-- Callers that loop over the requests start with `requests-start` and end with `requests-end`.
use Rattle.std.proofs.Common.{ℕ, zero, suc, ◌+◌, ◌*◌, ◌/◌, ◌%◌, ◌≤◌, ◌<◌, ◌≡◌, ◌⊎◌, inl, inr, refl, sym, ap, ◌∙◌, List, [], ◌∷◌, length, drop, true, false, true≢false, eqb, arith, length-drop, drop-drop, eq-eqb, ne_eqb}
use Rattle.std.proofs.Math.Option.{Option as Maybe, none, some}
use Rattle.rules.specs.Words.{Bytes, word_at, words}
use Rattle.rules.specs.Capabilities.{Kind, word_count}
use Rattle.rules.specs.Messages.{Request, add_request, series_from, series, series_at, series_of, malformed, or_empty, requests}
use Rattle.laws.proofs.Numbers.{same_or_not}
use Rattle.laws.proofs.WordLists.{drop-words}
use Rattle.requests.specs.Requests.{WellFormed, requests_in, words_in, first_request, request_of_kind}
use Rattle.requests.proofs.Here.{Good, Judged, bad, good, words-first, good-here, judge}

-- words that still belong to a request are dropped
skips : (n : ℕ) (ws : List ℕ) → series_from n ws ≡ series_from 0 (drop n ws)
unfolding series_from
skips zero [] = refl
skips (suc n) [] = refl
skips zero (w ∷ ws) = refl
skips (suc n) (w ∷ ws) = skips n ws

drop-words_in : (k : ℕ) (bs : Bytes) → 32 * k ≤ length bs → drop k (words_in bs) ≡ words_in (drop (32 * k) bs)
unfolding words_in
drop-words_in k bs h =
    let more = length-drop (32 * k) bs in
    let e : length bs / 32 ≡ k + length (drop (32 * k) bs) / 32 = omega arith in
    ap (λ (n : ℕ). drop k (words n bs)) e ∙ drop-words k (length (drop (32 * k) bs) / 32) bs

module _ (rest : Bytes) where
  -- whole words, or none
  series-whole : length rest % 32 ≡ 0 → series rest ≡ series_from 0 (words_in rest)
  unfolding series words_in
  series-whole h = let whole : eqb (length rest % 32) 0 ≡ true = eq-eqb _ _ h in rw (whole, series)

  pub series-stray : (length rest % 32 ≡ 0 → ⊥) → series rest ≡ none
  unfolding series
  series-stray h = let stray : eqb (length rest % 32) 0 ≡ false = ne_eqb _ _ h in rw (stray, series)

  series-first : 0 < length rest → length rest % 32 ≡ 0 → series rest ≡ series_from 0 (word_at rest 0 ∷ words_in (drop 32 rest))
  series-first l h = series-whole h ∙ ap (series_from 0) (words-first rest (omega arith))

  pub series-bad : 0 < length rest → length rest % 32 ≡ 0 → first_request rest ≡ none → series rest ≡ none
  unfolding first_request series_from
  series-bad l h e = series-first l h ∙ rw (e, series_from)

pub series-good : (rest : Bytes) (kind : Kind) → length rest % 32 ≡ 0 → Good rest kind
    → series rest ≡ add_request (request_of_kind rest kind) (series (drop (64 + 32 * word_count kind) rest))
unfolding first_request series_from
series-good rest kind h g =
    let b = g.within in
    let past_size = length-drop 32 rest in
    let past = length-drop (64 + 32 * word_count kind) rest in
    let next : 32 + 32 * (1 + word_count kind) ≡ 64 + 32 * word_count kind = omega arith in
    let behind : drop (32 * (1 + word_count kind)) (drop 32 rest) ≡ drop (64 + 32 * word_count kind) rest =
    drop-drop (32 * (1 + word_count kind)) 32 rest ∙ ap (λ (n : ℕ). drop n rest) next in
    let others : series_from (word_at rest 0) (words_in (drop 32 rest)) ≡ series (drop (64 + 32 * word_count kind) rest) =
    ap (λ (n : ℕ). series_from n (words_in (drop 32 rest))) g.size
    ∙ skips (1 + word_count kind) (words_in (drop 32 rest))
    ∙ ap (series_from 0) (drop-words_in (1 + word_count kind) (drop 32 rest) (omega arith) ∙ ap words_in behind)
    ∙ sym (series-whole (drop (64 + 32 * word_count kind) rest) (omega arith)) in
    series-first rest (omega arith) h
    ∙ rw (good-here rest kind g, series_from) (ap (add_request (request_of_kind rest kind)) others)

-- a well-formed series is whole words, and its first request is good
pub data First (rest : Bytes) : Type 0 where
  first : (kind : Kind) → Good rest kind → First rest

module _ (rest : Bytes) (w : WellFormed rest) where
  not_none : series rest ≡ none → ⊥
  unfolding malformed
  not_none e = true≢false (sym (ap malformed e) ∙ w)

  pub well-formed-whole : length rest % 32 ≡ 0
  well-formed-whole = go (same_or_not (length rest % 32) 0)
    where
      go : (length rest % 32 ≡ 0) ⊎ (length rest % 32 ≡ 0 → ⊥) → length rest % 32 ≡ 0
      go (inl e) = e
      go (inr n) = absurd (not_none (series-stray rest n))

  pub well-formed-first : 0 < length rest → First rest
  well-formed-first l = go (judge rest)
    where
      go : Judged rest → First rest
      go (bad e) = absurd (not_none (series-bad rest l well-formed-whole e))
      go (good kind g) = first kind g

-- what follows the first request of a well-formed series
pub record Follows (rest : Bytes) (r : Request) (behind : Bytes) : Type 0 where
  pub requests : requests_in rest ≡ r ∷ requests_in behind
  pub well_formed : WellFormed behind

pub follows : (rest : Bytes) (r : Request) (behind : Bytes) → WellFormed rest → series rest ≡ add_request r (series behind)
    → Follows rest r behind
unfolding requests_in or_empty add_request malformed
follows rest r behind w e = go (series behind) refl
  where
    go : (o : Maybe (List Request)) → series behind ≡ o → Follows rest r behind
    go none q = absurd (not_none rest w (e ∙ rw q))
    go (some rs) q = record { requests = ap or_empty e ∙ rw q; well_formed = ap malformed q }

-- where a loop over the requests starts and ends
pub requests-start : (d : Bytes) → requests d ≡ requests_in (drop series_at d)
unfolding requests series_of requests_in
requests-start d = refl

pub series-end : (rest : Bytes) → length rest ≤ 0 → series rest ≡ some []
unfolding series series_from words
series-end [] h = refl
series-end (b ∷ rest) h = absurd (omega (arith, h))

pub requests-end : (rest : Bytes) → length rest ≤ 0 → requests_in rest ≡ []
unfolding requests_in or_empty
requests-end rest h = ap or_empty (series-end rest h)
