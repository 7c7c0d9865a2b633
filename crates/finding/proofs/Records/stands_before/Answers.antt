-- The keys ascend, so the record before i decides.
use Rattle.std.proofs.Common.{arith, refl, ap₂, ◌∙◌, leb, rules}
use Rattle.laws.proofs.TableRecords.{formed-within}
use Rattle.finding.proofs.Near.{before_last}
use Rattle.finding.proofs.Records.stands_before.Goals as goal

pub overflow_mul-i : goal.overflow_mul-i
overflow_mul-i c =
    omega (arith, formed-within c.args.self.bytes.now (search rules))

pub word_at-requires : goal.word_at-requires
word_at-requires c =
    omega (arith, formed-within c.args.self.bytes.now (search rules))

pub returns-then-i-ne0 : goal.returns-then-i-ne0
returns-then-i-ne0 c =
    c.at_most.ensures
    ∙ ap₂ leb refl c.word_at.ensures.number
    ∙ before_last c.args.self.bytes.now _ c.args.i (search rules) (omega arith) (search rules)
