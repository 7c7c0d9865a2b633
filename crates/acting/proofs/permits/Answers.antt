-- An index in range names a capability that is held, and so sound; that one is asked.
use Rattle.std.proofs.Common.{sym, ◌∙◌, rules}
use Rattle.acting.proofs.Chosen.{chosen-fits, chosen-needs, covers-chosen}
use Rattle.rules.specs.Words.{num}
use Rattle.acting.proofs.permits.Goals as goal

pub overflow_cast-i : goal.overflow_cast-i
overflow_cast-i c =
    let acts = c.requires.acts_on in
    let byte = chosen-fits c.args.table.bytes.now c.requires.sound_table c.args.d.now acts.kind c.index.ensures c.small-i.ensures
    (sym c.if-index_in_range.true ∙ c.index_in_range.ensures acts.kind acts.names) in
    search rules

pub covers-requires : goal.covers-requires
covers-requires c =
    let acts = c.requires.acts_on in
    chosen-needs c.args.table.bytes.now c.requires.sound_table c.current-holder.ensures c.key_part.ensures c.args.d.now acts.kind
    (sym c.if-index_in_range.true ∙ c.index_in_range.ensures acts.kind acts.names)
    c.index.ensures c.small-i.ensures acts.names c.capability-chosen.ensures acts

pub returns-then-index_in_range : goal.returns-then-index_in_range
returns-then-index_in_range c k q =
    covers-chosen c.args.table.bytes.now c.requires.sound_table c.current-holder.ensures c.key_part.ensures c.args.d.now k
    (sym c.if-index_in_range.true ∙ c.index_in_range.ensures k q)
    c.index.ensures c.small-i.ensures q c.capability-chosen.ensures (num c.args.x.now) (c.covers.ensures k q)
