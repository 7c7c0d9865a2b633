-- The three arrays are the bytes that the rules name, and a full-size table becomes the first table (`first-table`).
use Rattle.std.proofs.Common.{◌∙◌}
use Rattle.rules.specs.Words.{bytes_of, bytes_before}
use Rattle.program_table.proofs.FirstTable.{first-table}
use Rattle.program_table.proofs.set_up.Goals as goal

pub returns : goal.returns
unfolding bytes_of bytes_before
returns c =
    c.set_up.ensures.table ∙ first-table _ c.requires
