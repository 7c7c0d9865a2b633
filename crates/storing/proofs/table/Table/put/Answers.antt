-- In each of its four ways what is left holds the store with the key set, and so the table is again one of the record form.
use Rattle.std.proofs.Common.{arith, refl, sym, ◌∙◌, ◌+◌, ◌-◌, rules, length}
use Rattle.rules.specs.Words.{num}
use Rattle.rules.specs.Table.{put, store}
use Rattle.laws.proofs.Numerals.{all-bytes}
use Rattle.finding.proofs.Places.{Present, Absent}
use Rattle.finding.proofs.Finding.{found, missed}
use Rattle.storing.proofs.Stored.{Stored, counted}
use Rattle.storing.proofs.Puts.{Asked, stored-as, has-fits, gap-fits, gap-takes, removes, replaces, stays, inserts}
use Rattle.storing.proofs.table.Table.put.Goals as goal
use Rattle.storing.proofs.table.Table.put.Goals.{After-find_near, In-Ok, In-Err, After-close, After-replace, After-insert}

-- what is known after `find_near`, and at its two answers
asked : (c : After-find_near) → Asked c.args.self.now.bytes.now c.args.key.now c.args.value.now c.args.self.now.used
asked c =
    record {
      form = search rules;
      count = search rules;
      key-size = search rules;
      value-size = search rules;
      key-bytes = all-bytes c.args.key.now c.fits-key;
      value-bytes = all-bytes c.args.value.now c.fits-value;
      fits = search rules;
    }

has : (c : In-Ok) → Present (store c.args.self.now.bytes.now) (num c.args.key.now) c.in-Ok.i
has c = found c.args.self.now.bytes.now (num c.args.key.now) (search rules) (rw c.records.ensures.bytes at c.in-Ok.ensures) refl

gap : (c : In-Err) → Absent (store c.args.self.now.bytes.now) (num c.args.key.now) c.in-Err.i
gap c = missed c.args.self.now.bytes.now (num c.args.key.now) (search rules) (rw c.records.ensures.bytes at c.in-Err.ensures) refl

-- in each way that changes the table, what it holds then
closed_stored : (c : After-close) → Stored (length c.args.self.now.bytes.now) c.close.new.t (c.args.self.now.used - 1) (put (store c.args.self.now.bytes.now) (num c.args.key.now) (num c.args.value.now))
closed_stored c =
    stored-as c.close.ensures (removes (asked (goal.at.invariant_of-self c).After-find_near) (has (goal.at.invariant_of-self c).In-Ok) (sym c.is_zero-removes.ensures ∙ c.if-removes.true))

replaced-stored : (c : After-replace) → Stored (length c.args.self.now.bytes.now) c.replace.new.t c.args.self.now.used (put (store c.args.self.now.bytes.now) (num c.args.key.now) (num c.args.value.now))
replaced-stored c =
    stored-as c.replace.ensures (replaces (asked (goal.at.invariant_of-self-else-removes c).After-find_near) (has (goal.at.invariant_of-self-else-removes c).In-Ok) (sym c.is_zero-removes.ensures ∙ c.if-removes.false))

inserted-stored : (c : After-insert) → Stored (length c.args.self.now.bytes.now) c.insert.new.t (c.args.self.now.used + 1) (put (store c.args.self.now.bytes.now) (num c.args.key.now) (num c.args.value.now))
inserted-stored c =
    stored-as c.insert.ensures (inserts (asked (goal.at.invariant_of-self-then-not-removes c).After-find_near) (gap (goal.at.invariant_of-self-then-not-removes c).In-Err) (sym c.is_zero-removes.ensures ∙ (search rules)))

pub overflow_add-i : goal.overflow_add-i
overflow_add-i c =
    let k = asked (goal.at.overflow_add-i c).After-find_near in
    let p = has (goal.at.overflow_add-i c).In-Ok in
    omega (arith, has-fits k p)

pub close-requires : goal.close-requires
close-requires c =
    let k = asked (goal.at.close-requires c).After-find_near in
    let p = has (goal.at.close-requires c).In-Ok in
    omega (arith, has-fits k p)

pub overflow_sub-self : goal.overflow_sub-self
overflow_sub-self c =
    let k = asked (goal.at.overflow_sub-self c).After-find_near in
    let p = has (goal.at.overflow_sub-self c).In-Ok in
    omega (arith, has-fits k p)

pub replace-requires : goal.replace-requires
replace-requires c =
    let k = asked (goal.at.replace-requires c).After-find_near in
    let p = has (goal.at.replace-requires c).In-Ok in
    omega (arith, has-fits k p)

pub insert-requires : goal.insert-requires
insert-requires c =
    let k = asked (goal.at.insert-requires c).After-find_near in
    let p = gap (goal.at.insert-requires c).In-Err in
    omega (arith, gap-fits k p, gap-takes k p (sym c.is_zero-removes.ensures ∙ (search rules)))

pub overflow_add-self : goal.overflow_add-self
overflow_add-self c =
    let k = asked (goal.at.overflow_add-self c).After-find_near in
    let p = gap (goal.at.overflow_add-self c).In-Err in
    omega (arith, gap-fits k p)

pub invariant_of-self : goal.invariant_of-self
invariant_of-self c = let h = closed_stored (goal.at.invariant_of-self c).After-close in record { form = h.form; count = counted h }

pub invariant_of-self-else-removes : goal.invariant_of-self-else-removes
invariant_of-self-else-removes c = let h = replaced-stored (goal.at.invariant_of-self-else-removes c).After-replace in record { form = h.form; count = counted h }

pub invariant_of-self-then-not-removes : goal.invariant_of-self-then-not-removes
invariant_of-self-then-not-removes c = let h = inserted-stored (goal.at.invariant_of-self-then-not-removes c).After-insert in record { form = h.form; count = counted h }

pub returns-then-removes : goal.returns-then-removes
returns-then-removes c = let h = closed_stored (goal.at.returns-then-removes c).After-close in record { lent = refl; long = h.long; stored = h.stored }

pub returns-else-removes : goal.returns-else-removes
returns-else-removes c = let h = replaced-stored (goal.at.returns-else-removes c).After-replace in record { lent = refl; long = h.long; stored = h.stored }

pub returns-then-not-removes : goal.returns-then-not-removes
returns-then-not-removes c = let h = inserted-stored (goal.at.returns-then-not-removes c).After-insert in record { lent = refl; long = h.long; stored = h.stored }

pub returns-else-not-removes : goal.returns-else-not-removes
returns-else-not-removes c =
    let h = stays (asked (goal.at.returns-else-not-removes c).After-find_near) (gap (goal.at.returns-else-not-removes c).In-Err) (sym c.is_zero-removes.ensures ∙ (search rules)) in
    record { lent = refl; long = refl; stored = h.stored }
