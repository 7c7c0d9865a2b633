-- The table is cleared, then the fixed records are put in it, and then the first procedure is registered.
use Rattle.std.proofs.Common.{◌≡◌, length, replicate, rules}
use Rattle.founding.proofs.Founded.{cleared-form, cleared-count, first-needs, founded}
use Rattle.founding.proofs.found.Goals as goal
use Rattle.founding.proofs.found.Goals.{After-fill}

-- what clearing leaves
zeros : (c : After-fill) → c.fill.new.self ≡ replicate (length c.args.t.now) 0
zeros c = c.fill.ensures.after (λ y e. e)

pub invariant_of-table : goal.invariant_of-table
invariant_of-table c =
    let e = zeros (goal.at.invariant_of-table c).After-fill in
    record { form = cleared-form c.requires e; count = cleared-count c.requires e }

pub append-requires : goal.append-requires
append-requires c =
    first-needs c.requires (zeros (goal.at.append-requires c).After-fill) c.put_fixed.ensures
    c.right_word-word.ensures c.first_series.ensures

pub returns : goal.returns
returns c =
    let all =
    founded c.requires (zeros (goal.at.returns c).After-fill) c.put_fixed.ensures
    c.right_word-word.ensures c.first_series.ensures c.append.ensures in
    search rules
