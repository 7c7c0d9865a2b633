-- A word that fits no byte is no type's number; of one that fits, that number is asked.
use Rattle.std.proofs.Common.{rules, arith, ◌≤◌}
use Rattle.rules.specs.Words.{num}
use Rattle.requests.proofs.Types.{large-number}
use Rattle.requests.proofs.kind_of.Goals as goal

pub returns-in_err-ok : goal.returns-in_err-ok
returns-in_err-ok c =
    let large : 256 ≤ c.small.result = search rules in
    rw c.from_residual.ensures (large-number (num c.args.word.now) (omega (arith, large, c.small.ensures)))
