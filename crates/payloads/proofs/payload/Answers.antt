-- Only a permitted Call has a payload.
use Rattle.std.proofs.Common.{rules, ◌≡◌, Ok}
use Rattle.rules.specs.Source.{fields_of}
use Rattle.rules.specs.declared.Success.TheVariants.{Done, Called, Registered, Looked}
use Rattle.payloads.proofs.payload.Goals as goal

pub returns-in-Ok-Called : goal.returns-in-Ok-Called
unfolding fields_of
returns-in-Ok-Called c =
    let e : c.args.reply ≡ Ok (Called c.in-Ok-Called.field-0-0) = search rules in rw (e, fields_of) c.payload_of.ensures

pub returns-in-Ok-Done : goal.returns-in-Ok-Done
unfolding fields_of
returns-in-Ok-Done c = let e : c.args.reply ≡ Ok Done = search rules in rw (e, fields_of) (search rules)

pub returns-in-Ok-Registered : goal.returns-in-Ok-Registered
unfolding fields_of
returns-in-Ok-Registered c =
    let e : c.args.reply ≡ Ok (Registered c.in-Ok-Registered.field-0-0) = search rules in rw (e, fields_of) (search rules)

pub returns-in-Ok-Looked : goal.returns-in-Ok-Looked
unfolding fields_of
returns-in-Ok-Looked c =
    let e : c.args.reply ≡ Ok (Looked c.in-Ok-Looked.field-0-0) = search rules in rw (e, fields_of) (search rules)

pub returns-in-Err : goal.returns-in-Err
unfolding fields_of
returns-in-Err c = rw (c.in-Err.is, fields_of) (search rules)
