-- The list length's record first: its key and its value; then the records behind it.
use Rattle.std.proofs.lemmas.Bool.{eqb-false}
use Rattle.std.proofs.Common.{arith, ap, sym, ◌∙◌, ◌≡◌, true, true≢false, eqb-true, ℕ, min, rules}
use Rattle.words.specs.Words.{small_limit}
use Rattle.listing.proofs.Lookups.{few}
use Rattle.lists.proofs.ListRows.{within, before-within, too_few, no_length, other_length, rows-if}
use Rattle.lists.proofs.list_form.Goals as goal
use Rattle.lists.proofs.list_form.Goals.{Then-small-table, then-is_slot, else-is_slot}

first : (c : Then-small-table) → c.is_slot.result ≡ true
first c =
    elim c.if-is_slot.branch [
      | then-is_slot w ↦ w.if-is_slot.true
      | else-is_slot w ↦ absurd (true≢false (sym c.if-small-table.true ∙ w.value-is ∙ w.if-is_slot.false))
    ]

pub overflow_add-list : goal.overflow_add-list
overflow_add-list c = omega (arith, before-within c.args.table c.requires, few c.args.table)

pub returns-then-table-list : goal.returns-then-table-list
returns-then-table-list c = too_few c.args.table c.requires (search rules)

pub overflow_mul-list : goal.overflow_mul-list
overflow_mul-list c = omega (arith, few c.args.table)

pub overflow_add-list-2 : goal.overflow_add-list-2
overflow_add-list-2 c = omega (arith, few c.args.table)

pub word_at-value-requires : goal.word_at-value-requires
word_at-value-requires c = omega (arith, within c.args.table)

pub returns-then-small-table : goal.returns-then-small-table
returns-then-small-table c =
    elim c.if-is_slot.branch [
      | then-is_slot w ↦
          let cut = w.small.ensures ∙ ap (λ (x : ℕ). min x small_limit) c.word_at-value.ensures.number in
          rows-if c.args.table c.requires (search rules) c.length_slot.ensures c.is_slot.ensures w.if-is_slot.true cut
          (eqb-true _ _ (sym w.value-is ∙ c.if-small-table.true)) c.places_follow.ensures
      | else-is_slot w ↦ absurd (true≢false (sym c.if-small-table.true ∙ w.value-is ∙ w.if-is_slot.false))
    ]

pub returns-else-small-table : goal.returns-else-small-table
returns-else-small-table c =
    c.if-small-table.false
    ∙ elim c.if-is_slot.branch [
      | then-is_slot w ↦
          let cut = w.small.ensures ∙ ap (λ (x : ℕ). min x small_limit) c.word_at-value.ensures.number in
          other_length c.args.table c.requires (search rules) c.length_slot.ensures c.is_slot.ensures w.if-is_slot.true cut
          (eqb-false _ _ (sym w.value-is ∙ c.if-small-table.false))
      | else-is_slot w ↦
          no_length c.args.table c.requires (search rules) c.length_slot.ensures c.is_slot.ensures w.if-is_slot.false
    ]
