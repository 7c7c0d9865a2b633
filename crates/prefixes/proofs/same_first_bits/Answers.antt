-- The whole bytes, and then the bits of the partial one: where these are equal, so are the first bits.
use Rattle.std.proofs.Common.{eq-eqb, ◌∙◌}
use Rattle.prefixes.proofs.FirstBits.{compared, whole-same, whole-differ, part-decides, whole-decides}
use Rattle.prefixes.proofs.same_first_bits.Goals as goal

pub returns-then-part-eq0 : goal.returns-then-part-eq0
returns-then-part-eq0 c =
    let k = compared _ _ _ (c.requires, c.told-a, c.told-b) c.fits-a c.fits-b in
    eq-eqb _ _ c.if-part-eq0.true ∙ whole-decides k (whole-same k c.eq.ensures) c.if-eq.true c.if-part-eq0.true

pub returns-else-part-eq0 : goal.returns-else-part-eq0
returns-else-part-eq0 c =
    let k = compared _ _ _ (c.requires, c.told-a, c.told-b) c.fits-a c.fits-b in
    part-decides k (whole-same k c.eq.ensures) c.if-eq.true c.same_part.ensures

pub returns-else-eq : goal.returns-else-eq
returns-else-eq c =
    let k = compared _ _ _ (c.requires, c.told-a, c.told-b) c.fits-a c.fits-b in
    c.if-eq.false ∙ whole-differ k (whole-same k c.eq.ensures) c.if-eq.false
