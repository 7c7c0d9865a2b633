-- The kinds that are requested and the words that are not zero are the records that are not zero.
use Rattle.std.proofs.Common.{arith}
use Rattle.rules.specs.Messages.{requests}
use Rattle.counting.proofs.AnyOrder.{counted-anyhow}
use Rattle.counting.proofs.records_needed.Goals as goal

pub returns : goal.returns
returns c =
    let kinds = c.kinds_taken.ensures in
    let words = c.requests_taken.ensures in
    record {
      is = λ p. omega (arith, counted-anyhow p (requests c.args.d.now), kinds.0, words.0);
      small = omega (arith, kinds.1, words.1);
    }
