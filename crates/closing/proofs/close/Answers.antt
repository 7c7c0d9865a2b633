-- The records that move up, and the zeros over the last ones, leave what `closed` says. Where the zeros begin and end is what the code
-- says; that it is where the records end, and the table's occupied part, are equations.
use Rattle.std.proofs.Common.{◌*◌, arith}
use Rattle.closing.specs.Closing.{closed}
use Rattle.closing.proofs.Closes.{close-leaves}
use Rattle.closing.proofs.close.Goals as goal

pub returns : goal.returns
unfolding closed
returns c =
    let a = c.args in
    close-leaves a.t.now c.copy_within.new.self c.fill.new.self (64 * a.i) (64 * a.j) (64 * a.used) _ _ (omega arith) (omega arith) (omega arith)
    c.copy_within.ensures.after (c.fill.ensures.after (λ y e. e)) (omega arith) (omega arith)
