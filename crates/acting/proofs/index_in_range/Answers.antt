-- The index and the count are both read whole where they are small.
use Rattle.std.proofs.Common.{rules}
use Rattle.acting.proofs.Holder.{holder-count}
use Rattle.acting.proofs.Chosen.{index-judged}
use Rattle.acting.proofs.index_in_range.Goals as goal

pub returns : goal.returns
returns c k q =
    index-judged c.args.table.bytes.now c.requires.sound_table c.args.d.now k c.index.ensures c.small.ensures
    (search (rules, holder-count) depth 6)
