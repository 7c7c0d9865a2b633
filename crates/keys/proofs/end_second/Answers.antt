-- Byte 30 is a digit of the key's number.
use Rattle.std.proofs.Common.{rules}
use Rattle.keys.proofs.KeyRead.{end-second-read}
use Rattle.keys.proofs.end_second.Goals as goal

pub returns : goal.returns
returns c = end-second-read _ c.told-key (λ i. search rules)
