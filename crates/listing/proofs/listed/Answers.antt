-- By the index: none, beyond the list, or that of a place, where the key stands or not.
use Rattle.std.proofs.Common.{inl, inr, rules}
use Rattle.rules.specs.Table.{store}
use Rattle.rules.specs.Words.{num}
use Rattle.listing.proofs.Lookups.{small_at, no_index, index-beyond, index-inside}
use Rattle.listing.proofs.listed.Goals as goal

pub returns-then-index-lt1 : goal.returns-then-index-lt1
returns-then-index-lt1 c =
    let small = small_at (store c.args.table.bytes.now) c.index_slot-index_slot.ensures c.value_at.ensures c.small-index.ensures in
    elim c.then-index-lt1.either [
      | inl low ↦ no_index c.requires (num c.args.procedure.now) small low
      | inr high ↦ index-beyond c.requires (num c.args.procedure.now) small high.1
    ]

pub returns : goal.returns
returns c =
    index-inside c.requires (num c.args.procedure.now)
    (small_at (store c.args.table.bytes.now) c.index_slot-index_slot.ensures c.value_at.ensures c.small-index.ensures)
    (search rules) (search rules)
    c.place_slot-place_slot.ensures c.value_at-2.ensures c.same_key.ensures
