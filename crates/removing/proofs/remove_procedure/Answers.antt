-- The records between the places of the first and the last slot are the procedure's, and closing that gap leaves the others.
use Rattle.std.proofs.Common.{ℕ, refl, ◌+◌, ◌-◌, ap, ◌∙◌, arith, rules, length}
use Rattle.rules.specs.Words.{num}
use Rattle.rules.specs.Table.{store}
use Rattle.rules.specs.KernelStorage.{address_slot}
use Rattle.rules.specs.Calls.{without_procedure}
use Rattle.finding.specs.Finding.{keys_below}
use Rattle.storing.proofs.Stored.{Stored, counted}
use Rattle.storing.proofs.Puts.{stored-as}
use Rattle.removing.proofs.ProcedureRecords.{Bounds, bounds-fit, closes}
use Rattle.removing.proofs.remove_procedure.Goals as goal
use Rattle.removing.proofs.remove_procedure.Goals.{After-keys_through-j, After-close}

-- what the two searches found
bounds : (c : After-keys_through-j)
    → Bounds c.args.table.now.bytes.now (num c.args.procedure.now) c.args.table.now.used c.keys_below-i.result c.keys_through-j.result
unfolding address_slot
bounds c =
    let s = store c.args.table.now.bytes.now in
    record {
      form = search rules;
      count = search rules;
      from = (rw c.records.ensures.bytes at c.keys_below-i.ensures) ∙ ap (λ (k : ℕ). keys_below s k) c.address_slot-first.ensures.number;
      to = (rw c.records-2.ensures.bytes at c.keys_through-j.ensures) ∙ ap (λ (k : ℕ). keys_below s (k + 1)) c.last_slot-last.ensures.number;
    }

-- what is left
left : (c : After-close)
    → Stored (length c.args.table.now.bytes.now) c.close.new.t (c.args.table.now.used - (c.keys_through-j.result - c.keys_below-i.result)) (without_procedure (num c.args.procedure.now) (store c.args.table.now.bytes.now))
left c = stored-as c.close.ensures (closes (bounds (goal.at.invariant_of-table c).After-keys_through-j))

pub close-requires : goal.close-requires
close-requires c =
    let b = bounds (goal.at.close-requires c).After-keys_through-j in
    bounds-fit b

pub overflow_sub-table : goal.overflow_sub-table
overflow_sub-table c =
    let b = bounds (goal.at.overflow_sub-table c).After-keys_through-j in
    omega (arith, bounds-fit b)

pub overflow_sub-table-2 : goal.overflow_sub-table-2
overflow_sub-table-2 c =
    let b = bounds (goal.at.overflow_sub-table-2 c).After-keys_through-j in
    omega (arith, bounds-fit b)

pub invariant_of-table : goal.invariant_of-table
invariant_of-table c = let h = left (goal.at.invariant_of-table c).After-close in record { form = h.form; count = counted h }

pub returns : goal.returns
returns c = let h = left (goal.at.returns c).After-close in record { lent = refl; long = h.long; stored = h.stored }
