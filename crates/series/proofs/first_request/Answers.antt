-- The request is good, since the series is well formed: it is within the series, and `request-is` says all that is promised.
use Rattle.std.proofs.Common.{ℕ, ◌+◌, ◌*◌, ◌-◌, ◌≡◌, refl, ap, take, drop, arith}
use Rattle.series.proofs.Cursor.{head-within, words-within, request-is}
use Rattle.series.proofs.first_request.Goals as goal

pub bounds-rest : goal.bounds-rest
bounds-rest c = omega (arith, head-within c.args.rest.now c.requires.1 c.requires.0)

pub slice_bounds-result-end : goal.slice_bounds-result-end
slice_bounds-result-end c = words-within c.args.rest.now c.requires.1 c.requires.0 c.words.result c.words.ensures.count

pub returns : goal.returns
returns c =
    let size : 64 + 32 * c.words.result - 64 ≡ 32 * c.words.result = omega arith in
    request-is c.args.rest.now c.requires.1 c.requires.0 c.words.result c.words.ensures.count _ refl
    (ap (λ (n : ℕ). take n (drop 64 c.args.rest.now)) size)
