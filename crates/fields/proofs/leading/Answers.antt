-- The arms pick the types with a key word, and Register among them.
use Rattle.std.proofs.Common.{rules, arith, ◌≤◌, lit≤, ◌∙◌}
use Rattle.rules.specs.Messages.{key_too_long, key_word, address_too_long, address_word}
use Rattle.fields.proofs.LeadingBytes.{leading-none, leading-key, leading-both, key-within, address-within}
use Rattle.fields.proofs.leading.Goals as goal

pub returns-in_default : goal.returns-in_default
returns-in_default c = leading-none c.args.d.now c.args.kind.0 (search rules) (search rules) (search rules) (search rules)

pub leading_at-requires-in-CALL : goal.leading_at-requires-in-CALL
leading_at-requires-in-CALL c =
    let first : 3 ≤ c.args.kind.0 = grind arith in
    let last : c.args.kind.0 ≤ 6 = grind arith in
    (omega (arith, key-within c.args.kind.0 first last), lit≤ tt)

pub returns-in-CALL : goal.returns-in-CALL
unfolding key_too_long key_word
returns-in-CALL c = λ kind q.
    c.leading_at-in-CALL.ensures ∙ leading-key c.args.d.now c.args.kind.0 (grind arith) (grind arith) kind q

pub leading_at-requires : goal.leading_at-requires
leading_at-requires c = (omega (arith, address-within c.args.kind.0 (search rules)), lit≤ tt)

pub leading_at-requires-else-leading_at : goal.leading_at-requires-else-leading_at
leading_at-requires-else-leading_at c = (omega (arith, address-within c.args.kind.0 (search rules)), lit≤ tt)

pub returns-then-leading_at : goal.returns-then-leading_at
unfolding key_too_long key_word
returns-then-leading_at c = λ kind q.
    c.if-leading_at.true ∙ rw (← c.leading_at.ensures, c.if-leading_at.true) at (leading-both c.args.d.now c.args.kind.0 (search rules) kind q)

pub returns-else-leading_at : goal.returns-else-leading_at
unfolding key_too_long key_word address_too_long address_word
returns-else-leading_at c = λ kind q.
    c.leading_at-else-leading_at.ensures
    ∙ rw (← c.leading_at.ensures, c.if-leading_at.false) at (leading-both c.args.d.now c.args.kind.0 (search rules) kind q)
