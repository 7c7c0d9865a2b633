-- The test is the one by which the rules give a code its bytes.
use Rattle.std.proofs.Common.{rules}
use Rattle.rules.proofs.Source.{one_byte, two_bytes}
use Rattle.rules.proofs.Refusal.code_len.Goals as goal

pub returns-then-self-lt256 : goal.returns-then-self-lt256
returns-then-self-lt256 c = rw (one_byte c.args.self.0 (search rules))

pub returns-else-self-lt256 : goal.returns-else-self-lt256
returns-else-self-lt256 c = rw (two_bytes c.args.self.0 (search rules))
