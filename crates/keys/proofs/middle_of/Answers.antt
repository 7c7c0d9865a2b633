-- Bytes 5 to 28 are a part of the key's number.
use Rattle.std.proofs.Common.{◌≡◌, take, drop, rules}
use Rattle.keys.proofs.KeyRead.{middle-read}
use Rattle.keys.proofs.middle_of.Goals as goal

pub returns : goal.returns
returns c =
    let part : c.unwrap.result.now ≡ take 24 (drop 5 c.args.key.now) = search rules in
    rw part (middle-read _ c.told-key (λ i. search rules))
