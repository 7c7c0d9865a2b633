-- The first key has none before it; any other is compared with the one before it.
use Rattle.std.proofs.Common.{refl, ap₂, ltb, ◌∙◌}
use Rattle.table.proofs.Forms.{climbs-first, climbs-later}
use Rattle.table.proofs.climbs.Goals as goal

pub returns-then-i-eq0 : goal.returns-then-i-eq0
returns-then-i-eq0 c = rw c.if-i-eq0.true (climbs-first c.args.t.now {i = 0} refl)

pub returns-else-i-eq0 : goal.returns-else-i-eq0
returns-else-i-eq0 c =
    c.below.ensures
    ∙ ap₂ ltb c.word_at.ensures.number c.word_at-else-i-eq0.ensures.number
    ∙ climbs-later c.args.t.now c.args.i c.if-i-eq0.false
