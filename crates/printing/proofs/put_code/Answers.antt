-- The space and the digits of each byte follow each other; the bytes are the last of two.
use Rattle.std.proofs.Common.{◌≡◌, ◌∙◌, arith, rules}
use Rattle.printing.proofs.Lines.{two_digits, code-some, digits-from, wrote-code}
use Rattle.printing.proofs.put_code.Goals as goal

pub overflow_sub-unused : goal.overflow_sub-unused
overflow_sub-unused c =
    let short = code-some c.args.refusal.0 in
    omega (arith, c.from-unused.ensures, c.code_len.ensures, short.1)

pub returns : goal.returns
returns c =
    let n = c.args.refusal.0 in
    let two : c.to_be_bytes-code.result ≡ two_digits n = search rules in
    let last = digits-from n two c.from-unused.ensures in
    let p = wrote-code c.put.ensures n (search rules) c.code_len.ensures last c.put_hex.ensures in
    record { wrote = p.0; upper_bound = p.1 }
