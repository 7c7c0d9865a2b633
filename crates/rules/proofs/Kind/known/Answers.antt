-- The types are the numbers 3 to 7: the code's two tests are those of `is-type`.
use borrow.Author.Tests.{le-leb, lt-leb}
use Rattle.rules.proofs.Source.{is-type}
use Rattle.rules.proofs.Kind.known.Goals as goal

pub returns-then-self : goal.returns-then-self
returns-then-self c = simp (is-type, le-leb 3 _ c.if-self.true)

pub returns-else-self : goal.returns-else-self
returns-else-self c = simp (is-type, lt-leb 3 _ c.if-self.false)
