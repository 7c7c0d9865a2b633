-- The space and the digits follow each other; a number of 64 bits has at most 20.
use Rattle.std.proofs.Common.{rules}
use Rattle.decimals.proofs.Decimals.{decimal-fits}
use Rattle.printing.proofs.Lines.{wrote-number}
use Rattle.printing.proofs.put_number.Goals as goal

pub put_decimal-requires : goal.put_decimal-requires
put_decimal-requires c =
    let most = decimal-fits c.args.n (search rules) in
    let space = c.put.ensures in
    search rules

pub returns : goal.returns
returns c =
    let p = wrote-number c.put.ensures c.args.n (search rules) c.put_decimal.ensures in
    record { wrote = p.0; upper_bound = p.1 }
