-- The place is i where it does not lie before i, but before i + 1 or at the end.
use Rattle.std.proofs.Common.{◌≡◌, false, ltb, eq-eqb, true≢false, sym, ◌∙◌, rules}
use borrow.Author.Tests.{lt-leb}
use Rattle.std.proofs.lemmas.Bool.{not-true, not-false}
use Rattle.rules.specs.Words.{num}
use Rattle.rules.specs.Table.{store}
use Rattle.finding.specs.Finding.{keys_below}
use Rattle.finding.proofs.Near.{place-not-past, place-not-before, place-at-end}
use Rattle.finding.proofs.Records.is_place.Goals as goal
use Rattle.finding.proofs.Records.is_place.Goals.{Then-not-stands_before, then-i-self, else-i-self}

not_before : (c : Then-not-stands_before) → ltb (keys_below (store c.args.self.bytes.now) (num c.args.key.now)) c.args.i ≡ false
not_before c =
    elim c.if-i-self.branch [
      | then-i-self w ↦ sym w.stands_before.ensures ∙ not-true _ (sym w.value-is ∙ c.if-not-stands_before.true)
      | else-i-self w ↦ absurd (true≢false (sym c.if-not-stands_before.true ∙ w.value-is ∙ lt-leb _ _ w.if-i-self.false))
    ]

pub returns-else-not-stands_before : goal.returns-else-not-stands_before
returns-else-not-stands_before c =
    c.if-not-stands_before.false
    ∙ elim c.if-i-self.branch [
      | then-i-self w ↦
          place-not-before c.args.self.bytes.now _ c.args.i (sym w.stands_before.ensures ∙ not-false _ (sym w.value-is ∙ c.if-not-stands_before.false))
      | else-i-self w ↦ place-not-past c.args.self.bytes.now _ c.args.i (search rules)
    ]

pub returns-then-i-self-2 : goal.returns-then-i-self-2
returns-then-i-self-2 c =
    eq-eqb _ _ c.if-i-self-2.true
    ∙ place-at-end c.args.self.bytes.now _ c.args.i (not_before (goal.at.returns-then-i-self-2 c).Then-not-stands_before) (search rules)
