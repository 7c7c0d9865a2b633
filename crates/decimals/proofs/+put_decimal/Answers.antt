-- The digits before the last one and the last one follow each other.
use Rattle.std.proofs.Common.{length, ap, arith, rules}
use Rattle.writing.proofs.Texts.{wrote_both}
use Rattle.decimals.proofs.Decimals.{decimal-one, decimal-more, decimal-longer}
use Rattle.decimals.proofs.+put_decimal.Goals as goal

pub put-requires : goal.put-requires
put-requires t c = let one = ap length (decimal-one c.args.n c.if-n-lt10.true) in omega arith

pub returns-then-n-lt10 : goal.returns-then-n-lt10
returns-then-n-lt10 t c = rw (decimal-one c.args.n c.if-n-lt10.true) c.put.ensures

pub put_decimal-requires : goal.put_decimal-requires
put_decimal-requires t c =
    let longer = decimal-longer c.args.n (search rules) in
    (omega arith, omega arith)

pub put-requires-2 : goal.put-requires-2
put-requires-2 t c =
    let longer = decimal-longer c.args.n (search rules) in
    let before = c.put_decimal.ensures in
    search rules

pub returns : goal.returns
returns t c = rw (decimal-more c.args.n (search rules)) (wrote_both c.put_decimal.ensures c.put-2.ensures)
