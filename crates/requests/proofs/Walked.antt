-- The loop that judges the series: the requests that were passed are good, so the rest of the series decides.
use Rattle.std.proofs.Common.{ℕ, ◌+◌, ◌*◌, ◌%◌, ◌≤◌, ◌<◌, ◌≡◌, refl, sym, ap, ◌∙◌, List, length, drop, true, false, not, None, Some, arith, length-drop}
use Rattle.std.proofs.lemmas.Option.{none-some}
use Rattle.std.proofs.Math.Option.{Option as Maybe, none, some}
use Rattle.rules.specs.Words.{Bytes}
use Rattle.rules.specs.Capabilities.{word_count}
use Rattle.rules.specs.Messages.{Request, add_request, series, series_at, series_of, malformed}
use Rattle.requests.specs.Requests.{first_request, request_of_kind, request_length}
use Rattle.requests.proofs.Here.{Judged, bad, good, judge}
use Rattle.requests.proofs.Read.{good-bytes}
use Rattle.requests.proofs.Steps.{series-stray, series-bad, series-good, series-end}

pub record Walked (d rest : Bytes) : Type 0 where
  pub whole : length rest % 32 ≡ 0
  pub left : malformed (series_of d) ≡ malformed (series rest)

pub walked_none : (d rest : Bytes) → rest ≡ drop series_at d → length rest % 32 ≡ 0 → Walked d rest
unfolding series_of
walked_none d rest e h = record { whole = h; left = ap (λ (bs : Bytes). malformed (series bs)) (sym e) }

add-keeps : (r : Request) (o : Maybe (List Request)) → malformed (add_request r o) ≡ malformed o
unfolding malformed add_request
add-keeps r none = refl
add-keeps r (some rs) = refl

-- a request that has bytes is good: there are as many, so the loop ends, and the rest behind them decides
pub record Passed (d rest : Bytes) (b : ℕ) : Type 0 where
  pub within : b ≤ length rest
  pub shorter : length (drop b rest) < length rest
  pub more : Walked d (drop b rest)

pub walked_more : {d rest : Bytes} {b : ℕ} → Walked d rest → Some b ≡ request_length (first_request rest) → Passed d rest b
unfolding request_length
walked_more {d} {rest} {b} w e = go (judge rest)
  where
    go : Judged rest → Passed d rest b
    go (bad q) = absurd (none-some b (sym (e ∙ rw q)))
    go (good kind g) =
        let same : b ≡ 64 + 32 * word_count kind = (let both = e ∙ sym (good-bytes rest kind g) in cc) in
        record {
          within = omega (arith, same, g.within);
          shorter = omega (arith, same, g.within, length-drop b rest);
          more = record {
            whole = omega (arith, same, g.within, w.whole, length-drop b rest);
            left =
                w.left
                ∙ ap malformed (series-good rest kind w.whole g)
                ∙ add-keeps (request_of_kind rest kind) (series (drop (64 + 32 * word_count kind) rest))
                ∙ ap (λ (n : ℕ). malformed (series (drop n rest))) (sym same);
          };
        }

pub walked_stop : {d rest : Bytes} → Walked d rest → 0 < length rest → None ≡ request_length (first_request rest)
    → false ≡ not (malformed (series_of d))
unfolding malformed
walked_stop {d} {rest} w l e = go (judge rest)
  where
    go : Judged rest → false ≡ not (malformed (series_of d))
    go (bad q) = sym (ap not (w.left ∙ ap malformed (series-bad rest l w.whole q)))
    go (good kind g) = absurd (none-some _ (e ∙ sym (good-bytes rest kind g)))

pub walked_all : {d rest : Bytes} → Walked d rest → length rest ≤ 0 → true ≡ not (malformed (series_of d))
unfolding malformed
walked_all {d} {rest} w h = sym (ap not (w.left ∙ ap malformed (series-end rest h)))

-- a series that is not whole words
pub stray-end : (d rest : Bytes) → rest ≡ drop series_at d → (length rest % 32 ≡ 0 → ⊥) → false ≡ not (malformed (series_of d))
unfolding series_of malformed
stray-end d rest e h = sym (ap (λ o. not (malformed o)) (ap series (sym e) ∙ series-stray rest h))
