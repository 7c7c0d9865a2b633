-- The open-ended types are the numbers 3 and 4: the code's two tests are those of `is-open-ended`.
use Rattle.std.proofs.Common.{refl}
use Rattle.rules.proofs.Source.{is-open-ended}
use Rattle.rules.proofs.Kind.open_ended.Goals as goal

pub returns-then-eq : goal.returns-then-eq
returns-then-eq c = rw (is-open-ended, ← c.eq.ensures, c.if-eq.true) refl

pub returns-else-eq : goal.returns-else-eq
returns-else-eq c = rw (is-open-ended, ← c.eq.ensures, c.if-eq.false, ← c.eq-else-eq.ensures) refl
