-- The first four bytes are the key's number without its last 28 digits.
use Rattle.std.proofs.Common.{rules}
use Rattle.keys.proofs.KeyRead.{mark-read}
use Rattle.keys.proofs.in_kernel_storage.Goals as goal

pub returns : goal.returns
returns c = mark-read _ c.told-key (λ i. search rules) _ c.starts_with.ensures.value
