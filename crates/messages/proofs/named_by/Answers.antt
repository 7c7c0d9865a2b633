-- An empty message is read as 0, as the rules do; then 0 is Null, and any other number names a type or none.
use Rattle.std.proofs.Common.{ℕ, rules, get_or, ap, sym, ◌≡◌, ◌∙◌}
use Rattle.rules.specs.Messages.{type_of}
use Rattle.messages.specs.declared.Named.TheVariants.{Of}
use Rattle.messages.proofs.Types.{named-null, named-known, named-unknown}
use Rattle.messages.proofs.named_by.Goals as goal

pub returns-then-number-eq-NULL : goal.returns-then-number-eq-NULL
unfolding type_of
returns-then-number-eq-NULL c =
    let read : c.unwrap_or-number.result ≡ get_or c.args.m.now 0 0 = search rules in
    named-null _ (sym read ∙ c.if-number-eq-NULL.true)

pub returns-in-Ok : goal.returns-in-Ok
unfolding type_of
returns-in-Ok c =
    let read : c.unwrap_or-number.result ≡ get_or c.args.m.now 0 0 = search rules in
    let here = c.in-Ok.ensures in
    rw (← read) (ap (λ (n : ℕ). Of (record { 0 = n })) here.0 ∙ named-known _ c.if-number-eq-NULL.false (sym here.1))

pub returns-in-Err : goal.returns-in-Err
unfolding type_of
returns-in-Err c =
    let read : c.unwrap_or-number.result ≡ get_or c.args.m.now 0 0 = search rules in
    rw (← read) (named-unknown _ c.if-number-eq-NULL.false (sym c.in-Err.ensures.1))
