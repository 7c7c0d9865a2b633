-- Without its end a key is a quotient of its number.
use Rattle.std.proofs.Common.{ap₂, ◌∙◌, eqb}
use Rattle.heads.proofs.HeadRows.{front_read}
use Rattle.heads.proofs.same_front.Goals as goal

pub returns : goal.returns
returns c =
    c.same.ensures
    ∙ ap₂ eqb (front_read c.args.a.now c.told-a c.fits-a)
    (front_read c.args.b.now c.told-b c.fits-b)
