-- The first byte is the number's first digit.
use Rattle.std.proofs.Common.{rules, sym, ◌∙◌}
use Rattle.prefixes.proofs.PrefixWords.{prefix-byte}
use Rattle.prefixes.proofs.prefix_of.Goals as goal

pub returns : goal.returns
returns c = c.from.ensures ∙ sym (prefix-byte (record { size = c.told-capability; values = λ i. search rules }))
