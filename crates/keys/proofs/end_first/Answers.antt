-- Byte 29 is a digit of the key's number.
use Rattle.std.proofs.Common.{rules}
use Rattle.keys.proofs.KeyRead.{end-first-read}
use Rattle.keys.proofs.end_first.Goals as goal

pub returns : goal.returns
returns c = end-first-read _ c.told-key (λ i. search rules)
