-- How many bytes there are decides; a byte that the code does not have is zero.
use Rattle.std.proofs.Common.{rules, ◌≡◌, ◌/◌, ◌%◌, [], ◌∷◌}
use Rattle.replies.proofs.Codes.{one-below, two-above, one-padded, two-padded}
use Rattle.replies.proofs.padded_code.Goals as goal

pub returns-then-code_len-eq1 : goal.returns-then-code_len-eq1
returns-then-code_len-eq1 c =
    let code = c.args.refusal.0 in
    let bytes : c.to_be_bytes.result ≡ code / 256 % 256 ∷ code % 256 ∷ [] = search rules in
    rw bytes (one-padded code (one-below code c.code_len.ensures c.if-code_len-eq1.true))

pub returns-else-code_len-eq1 : goal.returns-else-code_len-eq1
returns-else-code_len-eq1 c =
    let code = c.args.refusal.0 in
    let bytes : c.to_be_bytes.result ≡ code / 256 % 256 ∷ code % 256 ∷ [] = search rules in
    rw bytes (two-padded code (two-above code c.code_len.ensures c.if-code_len-eq1.false) (search rules))
