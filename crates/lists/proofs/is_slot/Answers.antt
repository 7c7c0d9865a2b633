-- A record's key is the word at its place.
use Rattle.std.proofs.Common.{arith}
use Rattle.listing.proofs.Lookups.{few}
use Rattle.lists.proofs.ListRows.{within}
use Rattle.lists.proofs.is_slot.Goals as goal

pub overflow_mul-i : goal.overflow_mul-i
overflow_mul-i c = omega (arith, few c.args.table, c.requires)

pub word_at-requires : goal.word_at-requires
word_at-requires c = omega (arith, within c.args.table, c.requires)
