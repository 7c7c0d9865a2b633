-- Where i is below the number of occupied records, the word at 64 i is the key of one of them.
use Rattle.std.proofs.Common.{arith, rules}
use Rattle.laws.proofs.TableRecords.{formed-within}
use Rattle.finding.proofs.Records.has_key.Goals as goal

pub overflow_mul-i : goal.overflow_mul-i
overflow_mul-i c =
    omega (arith, formed-within c.args.self.bytes.now (search rules))

pub word_at-requires : goal.word_at-requires
word_at-requires c =
    omega (arith, formed-within c.args.self.bytes.now (search rules))
