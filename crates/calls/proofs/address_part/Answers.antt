-- The last 20 bytes of a number below 256^20 are its bytes.
use Rattle.std.proofs.Common.{◌≡◌, ◌-◌, ◌∙◌, length, drop, rules}
use Rattle.laws.proofs.Numerals.{all-bytes}
use Rattle.calls.proofs.CalleeAddress.{address-bytes}
use Rattle.calls.proofs.address_part.Goals as goal

pub returns : goal.returns
returns c =
    let part : c.unwrap.result.now ≡ drop (length c.args.word.now - 20) c.args.word.now = search rules in
    part ∙ address-bytes c.args.word.now c.told-word (all-bytes c.args.word.now c.fits-word) c.requires
