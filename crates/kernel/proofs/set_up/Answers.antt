-- Each return is a place in the row.
-- The returns in order: 66 ed (three); 66 ef (two); the rest of the row.
use Rattle.std.proofs.Common.{rules, ◌≡◌}
use Rattle.rules.specs.Answers.{code_number}
use Rattle.kernel.proofs.SetUpRow.{key-wrong, address-wrong, kernel-wrong, not-whole, too_long, fits, sizes-right}
use Rattle.kernel.proofs.set_up.Goals as goal

pub returns-in_default : goal.returns-in_default
unfolding code_number
returns-in_default c =
    key-wrong c.args.t.now c.args.key.now c.args.address.now c.args.kernel_address.now (search rules)

pub returns-in_default-as_array : goal.returns-in_default-as_array
unfolding code_number
returns-in_default-as_array c =
    address-wrong c.args.t.now c.args.key.now c.args.address.now c.args.kernel_address.now (search rules)
    (search rules)

pub returns-in_default-as_array-2 : goal.returns-in_default-as_array-2
unfolding code_number
returns-in_default-as_array-2 c =
    kernel-wrong c.args.t.now c.args.key.now c.args.address.now c.args.kernel_address.now (search rules)
    (search rules) (search rules)

pub returns-then-t-ne0 : goal.returns-then-t-ne0
unfolding code_number
returns-then-t-ne0 c =
    not-whole c.args.t.now c.args.key.now c.args.address.now c.args.kernel_address.now (search rules)
    (search rules) (search rules) (search rules)

pub returns-then-t-gt-GREATEST_TABLE : goal.returns-then-t-gt-GREATEST_TABLE
unfolding code_number
returns-then-t-gt-GREATEST_TABLE c =
    too_long c.args.t.now c.args.key.now c.args.address.now c.args.kernel_address.now (search rules)
    (search rules) (search rules) (search rules) (search rules)

pub set_up_fresh-requires : goal.set_up_fresh-requires
set_up_fresh-requires c =
    fits c.args.t.now c.args.key.now c.args.address.now c.args.kernel_address.now (search rules)
    (search rules) (search rules) (search rules) (search rules)

pub returns : goal.returns
returns c =
    let key : c.in-Some.key.now ≡ c.args.key.now = search rules in
    let address : c.in-Some-as_array.address.now ≡ c.args.address.now = search rules in
    let kernel_address : c.in-Some-as_array-2.kernel_address.now ≡ c.args.kernel_address.now = search rules in
    sizes-right c.args.t.now c.args.key.now c.args.address.now c.args.kernel_address.now (search rules)
    (search rules) (search rules) (search rules) (search rules) (rw (key, address, kernel_address) at c.set_up_fresh.ensures)
