-- What is left of the code decides; each step drops at least an opcode.
use Rattle.std.proofs.Common.{arith, Some, refl, sym, ◌∙◌}
use Rattle.opcodes.proofs.Walks.{data-most, walked_more, walked_cut, walked_stop, walked_through}
use Rattle.laws.proofs.WordParts.{rest-none, rest-or-none}
use Rattle.opcodes.proofs.walk.Goals as goal

pub returns-then-not-allowed : goal.returns-then-not-allowed
returns-then-not-allowed c =
    sym (c.loop-at.invariant ∙ walked_stop _ _ (sym c.first_other.ensures ∙ c.in-Some.is) (sym c.if-not-allowed.true ∙ c.allowed.ensures))

pub overflow_add-data_bytes : goal.overflow_add-data_bytes
overflow_add-data_bytes c = omega (arith, data-most _ c.data_bytes.ensures)

pub returns-in_default-get : goal.returns-in_default-get
returns-in_default-get c =
    walked_cut _ _ (sym c.first_other.ensures ∙ c.in-Some.is) (sym c.if-not-allowed.false ∙ c.allowed.ensures) c.data_bytes.ensures
    (sym (rest-none _ _ c.in_default-get.ensures.lookup))
    ∙ sym c.loop-at.invariant

pub loop-at-preserved : goal.loop-at-preserved
loop-at-preserved c =
    c.loop-at.invariant
    ∙ walked_more _ _ (sym c.first_other.ensures ∙ c.in-Some.is) (sym c.if-not-allowed.false ∙ c.allowed.ensures) c.data_bytes.ensures
    (rest-or-none _ _ (Some c.in-Some-get.behind) c.in-Some-get.behind c.in-Some-get.ensures.lookup refl)

pub returns : goal.returns
returns c = walked_through _ _ (sym c.first_other.ensures ∙ c.in_default.is) ∙ sym c.loop-at.invariant
