-- Nothing is read yet.
use Rattle.std.proofs.Common.{sym, ap, ◌∙◌, length, length-drop}
use Rattle.laws.proofs.WordParts.{rest-or-none}
use Rattle.requests.specs.Requests.{requests_in}
use Rattle.requests.proofs.Steps.{requests-start}
use Rattle.series.proofs.requests.Goals as goal

pub returns : goal.returns
returns c =
    let rest = rest-or-none _ _ _ _ c.get.ensures.lookup c.unwrap_or_default.ensures in
    record {
      all = ap requests_in rest ∙ sym (requests-start c.args.d.now);
      bytes = ap length rest ∙ length-drop 96 c.args.d.now;
      rest = rw rest c.requires;
    }
