-- The loop's invariant is `StoringKind`: of the requests that are left those of the type are left to store.
use Rattle.std.proofs.Common.{rules, ◌≡◌}
use Rattle.capability_records.proofs.Requested.{kind-pass, kind-ready, kind-turn, kind-full, kind-end}
use Rattle.capability_records.proofs.put_kind.Goals as goal

pub put_words-requires : goal.put_words-requires
put_words-requires c =
    let same : c.in-Some.request.kind.0 ≡ c.args.kind.0 = search rules in
    kind-ready c.loop-request.invariant c.in-Some.ensures.steps same

pub loop-request-preserved-then-eq : goal.loop-request-preserved-then-eq
loop-request-preserved-then-eq c =
    let same : c.in-Some.request.kind.0 ≡ c.args.kind.0 = search rules in
    kind-turn c.loop-request.invariant c.in-Some.ensures.steps same c.put_words.ensures

pub loop-request-preserved : goal.loop-request-preserved
loop-request-preserved c =
    let other : c.in-Some.request.kind.0 ≡ c.args.kind.0 → ⊥ = search rules in
    kind-pass c.loop-request.invariant c.in-Some.ensures.steps other

pub returns-in-None : goal.returns-in-None
returns-in-None c = kind-end c.loop-request.invariant c.in-None.ensures.steps.0

pub returns-then-i-count : goal.returns-then-i-count
returns-then-i-count c = kind-full c.loop-request.invariant c.if-i-count.true
