-- Three records, each compared with its slot.
use Rattle.std.proofs.Common.{true≢false, sym, ◌∙◌}
use Rattle.lists.proofs.ListRows.{no_address, no-current, entry-if}
use Rattle.lists.proofs.fixed_follow.Goals as goal
use Rattle.lists.proofs.fixed_follow.Goals.{then-is_slot, else-is_slot}

pub returns-then-is_slot-2 : goal.returns-then-is_slot-2
returns-then-is_slot-2 c =
    elim c.if-is_slot.branch [
      | then-is_slot w ↦
          entry-if c.args.table c.args.i c.requires c.kernel_address_slot.ensures c.is_slot.ensures
          w.if-is_slot.true w.current_slot.ensures w.is_slot-then-is_slot.ensures (sym w.value-is ∙ c.if-is_slot-2.true)
          c.entry_slot.ensures c.is_slot-then-is_slot-2.ensures
      | else-is_slot w ↦ absurd (true≢false (sym c.if-is_slot-2.true ∙ w.value-is ∙ w.if-is_slot.false))
    ]

pub returns-else-is_slot-2 : goal.returns-else-is_slot-2
returns-else-is_slot-2 c =
    c.if-is_slot-2.false
    ∙ elim c.if-is_slot.branch [
      | then-is_slot w ↦
          no-current c.args.table c.args.i c.requires c.kernel_address_slot.ensures c.is_slot.ensures
          w.if-is_slot.true w.current_slot.ensures w.is_slot-then-is_slot.ensures (sym w.value-is ∙ c.if-is_slot-2.false)
      | else-is_slot w ↦
          no_address c.args.table c.args.i c.requires c.kernel_address_slot.ensures c.is_slot.ensures w.if-is_slot.false
    ]
