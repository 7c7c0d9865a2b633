-- A Call's two fields follow each other.
use Rattle.std.proofs.Common.{◌≡◌, Ok, rules}
use Rattle.rules.specs.declared.Success.TheVariants.{Called}
use Rattle.writing.proofs.Texts.{wrote_both}
use Rattle.printing.specs.Printing.{printed_fields}
use Rattle.printing.proofs.put_fields.Goals as goal

pub returns-in-Ok-Called-clause-wrote : goal.returns-in-Ok-Called-clause-wrote
unfolding printed_fields
returns-in-Ok-Called-clause-wrote c =
    let e : c.args.reply ≡ Ok (Called c.in-Ok-Called.address) = search rules in
    rw (e, printed_fields) (wrote_both c.put_spaced.ensures.wrote c.put_spaced-in-Ok-Called.ensures.wrote)
