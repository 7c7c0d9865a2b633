-- Byte 31 is the last digit of the key's number.
use Rattle.std.proofs.Common.{rules}
use Rattle.keys.proofs.KeyRead.{end-third-read}
use Rattle.keys.proofs.end_third.Goals as goal

pub returns : goal.returns
returns c = end-third-read _ c.told-key (λ i. search rules)
