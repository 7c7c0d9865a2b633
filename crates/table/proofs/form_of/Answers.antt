-- Each return names the part of the record form that failed, or that none did. `run` tells whether the keys ascend, and how many
-- records are occupied.
use Rattle.std.proofs.Common.{arith, refl, sym, ◌∙◌, rules}
use Rattle.laws.proofs.Numerals.{all-bytes}
use Rattle.table.proofs.Forms.{form-not-whole, form-too-long, form-bad, Sized, used-within, form-unsorted, form-unclean, form-used}
use Rattle.table.proofs.form_of.Goals as goal
use Rattle.table.proofs.form_of.Goals.{After-run}

-- the tests before `run`
sized : (c : After-run) → Sized c.args.t.now
sized c =
    record {
      lent = all-bytes c.args.t.now (λ i. (c.type_inv.t i).fits);
      whole = search rules;
      short = search rules;
    }

pub returns-then-t-ne0 : goal.returns-then-t-ne0
returns-then-t-ne0 c = form-bad _ (form-not-whole _ c.if-t-ne0.true)

pub returns-then-t-gt-GREATEST_TABLE : goal.returns-then-t-gt-GREATEST_TABLE
returns-then-t-gt-GREATEST_TABLE c = form-bad _ (form-too-long _ c.if-t-ne0.false c.if-t-gt-GREATEST_TABLE.true)

pub overflow_mul-used : goal.overflow_mul-used
overflow_mul-used c =
    omega (arith, used-within (sized (goal.at.overflow_mul-used c).After-run) c.in_ok-used.ensures refl)

pub slice_bounds-is_blank-count : goal.slice_bounds-is_blank-count
slice_bounds-is_blank-count c =
    omega (arith, used-within (sized (goal.at.slice_bounds-is_blank-count c).After-run) c.in_ok-used.ensures refl)

pub slice_bounds-is_blank-start : goal.slice_bounds-is_blank-start
slice_bounds-is_blank-start c =
    omega (arith, used-within (sized (goal.at.slice_bounds-is_blank-start c).After-run) c.in_ok-used.ensures refl)

pub returns-then-is_blank : goal.returns-then-is_blank
returns-then-is_blank c =
    form-used (sized (goal.at.returns-then-is_blank c).After-run) c.in_ok-used.ensures refl (sym c.is_blank.ensures ∙ c.if-is_blank.true)

pub returns-else-is_blank : goal.returns-else-is_blank
returns-else-is_blank c =
    form-unclean (sized (goal.at.returns-else-is_blank c).After-run) c.in_ok-used.ensures refl (sym c.is_blank.ensures ∙ c.if-is_blank.false)

pub returns-in_err-used : goal.returns-in_err-used
returns-in_err-used c = c.from_residual.ensures ∙ form-unsorted (sized (goal.at.returns-in_err-used c).After-run) c.in_err-used.ensures refl
