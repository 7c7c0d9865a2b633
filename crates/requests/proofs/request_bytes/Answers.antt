-- Each return is one of the laws of `Read`: a test that failed, or all of them passed.
use Rattle.std.proofs.Common.{ℕ, min, ap, ◌∙◌, arith, length-drop}
use Rattle.rules.specs.Capabilities.{number, prefix_in_range}
use Rattle.words.specs.Words.{small_limit}
use Rattle.laws.proofs.WordParts.{rest_part}
use Rattle.rights.specs.Rights.{capability_in}
use Rattle.requests.proofs.Types.{prefix-word}
use Rattle.requests.proofs.Read.{too_short, wrong_type, wrong_size, cut-end, prefix-decides}
use Rattle.requests.proofs.request_bytes.Goals as goal

pub returns-then-rest-lt-HEAD : goal.returns-then-rest-lt-HEAD
returns-then-rest-lt-HEAD c = too_short c.args.rest.now c.if-rest-lt-HEAD.true

pub returns-in_err-kind : goal.returns-in_err-kind
returns-in_err-kind c =
    let named = c.word_at.ensures.number in
    c.from_residual.ensures ∙ wrong_type c.args.rest.now (rw named at c.in_err-kind.ensures)

pub returns-then-small-count : goal.returns-then-small-count
returns-then-small-count c =
    wrong_size c.args.rest.now _ (c.in_ok-kind.ensures.0 ∙ c.word_at.ensures.number) _ c.words-count.ensures.count
    _ (c.small.ensures ∙ ap (λ (x : ℕ). min x small_limit) c.word_at-2.ensures.number) c.if-small-count.true

pub returns-then-rest-bytes : goal.returns-then-rest-bytes
returns-then-rest-bytes c =
    cut-end c.args.rest.now _ (c.in_ok-kind.ensures.0 ∙ c.word_at.ensures.number)
    _ c.words-count.ensures.count c.if-rest-bytes.true

pub prefix_in_range-requires : goal.prefix_in_range-requires
unfolding number
prefix_in_range-requires c = λ h.
    let one = c.words-count.ensures.count ∙ prefix-word _ c.in_ok-kind.ensures.1 h in
    rw (rest_part, length-drop) (omega (arith, one, c.if-rest-bytes.false))

pub returns : goal.returns
returns c =
    let size = c.small.ensures ∙ ap (λ (x : ℕ). min x small_limit) c.word_at-2.ensures.number in
    let part = rest_part 64 c.args.rest.now in
    c.then_some.ensures
    ∙ prefix-decides c.args.rest.now _ (c.in_ok-kind.ensures.0 ∙ c.word_at.ensures.number) _ c.words-count.ensures.count _ size
    c.in_ok-kind.ensures.1 c.if-small-count.false c.if-rest-bytes.false c.prefix_in_range.result
    (λ kind q. c.prefix_in_range.ensures kind q ∙ ap (λ bs. prefix_in_range kind (capability_in kind bs)) part)
