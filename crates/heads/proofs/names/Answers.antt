-- The index is judged as a whole word; a place's key stands behind the list length.
use Rattle.std.proofs.Common.{arith, rules}
use Rattle.lists.proofs.LaidRows.{laid-within, laid-small}
use Rattle.heads.proofs.HeadRows.{place-if}
use Rattle.heads.proofs.names.Goals as goal

pub overflow_add-list : goal.overflow_add-list
overflow_add-list c = omega (arith, laid-small c.requires)

pub overflow_mul-list : goal.overflow_mul-list
overflow_mul-list c = omega (arith, laid-small c.requires)

pub overflow_add-list-2 : goal.overflow_add-list-2
overflow_add-list-2 c = omega (arith, laid-small c.requires)

pub word_at-there-requires : goal.word_at-there-requires
word_at-there-requires c = omega (arith, laid-within c.requires)

pub returns : goal.returns
returns c =
    place-if c.requires _ _ c.small-place.ensures (search rules) (search rules) c.word_at-there.ensures c.same_key.ensures
