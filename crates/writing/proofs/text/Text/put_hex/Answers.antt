-- The digits are put into the buffer's part that begins where the text ends.
use Rattle.std.proofs.Common.{refl, arith, rules}
use Rattle.writing.proofs.Texts.{wrote-part, hex-length}
use Rattle.writing.proofs.text.Text.put_hex.Goals as goal

pub returns : goal.returns
returns c =
    let long = hex-length c.args.bytes.now in
    let written = c.write_hex.ensures in
    wrote-part refl (rw (← written) refl) (omega arith) (search rules)
