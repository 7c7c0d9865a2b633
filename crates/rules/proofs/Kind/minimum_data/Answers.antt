-- The array is the list of the first eight values of the rules' minimum; a number past it names no type.
use Rattle.std.proofs.Common.{rules, get_or, ◌≡◌, ◌∙◌}
use Rattle.rules.specs.Capabilities.{number, kind_among, kind_of}
use Rattle.rules.specs.Messages.{minimum}
use Rattle.rules.specs.Source.{minimum_of}
use Rattle.rules.proofs.Source.{values, value-or, names-none}
use Rattle.rules.proofs.Kind.minimum_data.Goals as goal

pub returns : goal.returns
unfolding minimum_of kind_of kind_among number minimum
returns c =
    let read : c.unwrap_or.result ≡ get_or (values minimum_of 8) c.args.self.0 0 = search rules in
    read ∙ value-or minimum_of 0 8 c.args.self.0 (λ past. rw (names-none _ past, minimum_of))
