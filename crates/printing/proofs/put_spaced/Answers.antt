-- The returns in order: no bytes; the space and the digits follow each other.
use Rattle.std.proofs.Common.{rules}
use Rattle.writing.proofs.Texts.{wrote_none}
use Rattle.printing.proofs.Lines.{spaced-none, wrote-spaced}
use Rattle.printing.proofs.put_spaced.Goals as goal

pub returns-then-is_empty-clause-wrote : goal.returns-then-is_empty-clause-wrote
returns-then-is_empty-clause-wrote c = rw (spaced-none c.args.bytes.now (search rules)) (wrote_none _)

pub returns : goal.returns
returns c =
    let p = wrote-spaced c.put.ensures c.args.bytes.now (search rules) c.put_hex.ensures in
    record { wrote = p.0; upper_bound = p.1 }
