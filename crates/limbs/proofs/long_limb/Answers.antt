-- The number is the library's of the bytes at the offset in their order, and the library reads eight bytes as the rules do.
use Rattle.std.proofs.Common.{◌≡◌, ◌∙◌, ap}
use Rattle.std.specs.Int.{w64, from_be_bytes}
use Rattle.rules.specs.Words.{num}
use Rattle.limbs.proofs.Limbs.{eight-bytes}
use Rattle.limbs.proofs.long_limb.Goals as goal

pub returns : goal.returns
returns c =
    let in_order : c.from_be_bytes.result ≡ from_be_bytes w64 c.array_at.result = c.from_be_bytes.ensures in
    record { is = in_order ∙ eight-bytes _ c.array_at.ensures.len ∙ ap num c.array_at.ensures.value }
