-- The library reads four bytes as the rules do.
use Rattle.std.proofs.Common.{◌∙◌, arith, ap}
use Rattle.rules.specs.Words.{num}
use Rattle.limbs.proofs.Limbs.{four-bytes}
use Rattle.limbs.proofs.limb.Goals as goal

pub returns : goal.returns
returns c =
    record {
      is = c.from.ensures ∙ c.from_be_bytes.ensures ∙ four-bytes _ c.array_at.ensures.len ∙ ap num c.array_at.ensures.value;
      fits = omega arith;
    }
