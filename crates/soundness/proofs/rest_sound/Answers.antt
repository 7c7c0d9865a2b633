-- The current key, the entry key, the kernel address.
use Rattle.std.proofs.Common.{true≢false, sym, ◌∙◌}
use Rattle.rules.specs.Table.{store}
use Rattle.soundness.proofs.Whole.{current-not, entry-not, address-if}
use Rattle.soundness.proofs.rest_sound.Goals as goal
use Rattle.soundness.proofs.rest_sound.Goals.{then-holds_listed, else-holds_listed}

pub returns-then-holds_listed-2 : goal.returns-then-holds_listed-2
returns-then-holds_listed-2 c =
    elim c.if-holds_listed.branch [
      | then-holds_listed w ↦
          address-if (store c.args.table.bytes.now) c.current_slot.ensures c.holds_listed.ensures w.if-holds_listed.true
          w.entry_slot.ensures w.holds_listed-then-holds_listed.ensures (sym w.value-is ∙ c.if-holds_listed-2.true)
          c.kernel_address_slot.ensures c.value_at.ensures c.is_address.ensures
      | else-holds_listed w ↦ absurd (true≢false (sym c.if-holds_listed-2.true ∙ w.value-is ∙ w.if-holds_listed.false))
    ]

pub returns-else-holds_listed-2 : goal.returns-else-holds_listed-2
returns-else-holds_listed-2 c =
    c.if-holds_listed-2.false
    ∙ elim c.if-holds_listed.branch [
      | then-holds_listed w ↦
          entry-not (store c.args.table.bytes.now) c.current_slot.ensures c.holds_listed.ensures w.if-holds_listed.true
          w.entry_slot.ensures w.holds_listed-then-holds_listed.ensures (sym w.value-is ∙ c.if-holds_listed-2.false)
      | else-holds_listed w ↦ current-not (store c.args.table.bytes.now) c.current_slot.ensures c.holds_listed.ensures w.if-holds_listed.false
    ]
