-- The loop keeps `Following`: the places before have their keys.
use Rattle.std.proofs.Common.{arith, rules}
use Rattle.listing.proofs.Lookups.{few}
use Rattle.lists.proofs.ListRows.{within, follow-starts, follow-turns, follow-stops, follow-ends}
use Rattle.lists.proofs.places_follow.Goals as goal

pub overflow_mul-list : goal.overflow_mul-list
overflow_mul-list c = omega (arith, few c.args.table)

pub word_at-start-requires : goal.word_at-start-requires
word_at-start-requires c = omega (arith, within c.args.table)

pub loop-i-init : goal.loop-i-init
loop-i-init c = follow-starts c.args.table c.requires.0

pub word_at-requires : goal.word_at-requires
word_at-requires c = omega (arith, within c.args.table)

pub loop-i-preserved : goal.loop-i-preserved
loop-i-preserved c =
    follow-turns c.loop-i.invariant (search rules) c.word_at.ensures c.is_place_key.ensures c.if-not-is_place_key.false

pub returns-then-not-is_place_key : goal.returns-then-not-is_place_key
returns-then-not-is_place_key c =
    follow-stops c.loop-i.invariant (search rules) c.word_at.ensures c.is_place_key.ensures c.if-not-is_place_key.true

pub returns : goal.returns
returns c = follow-ends c.loop-i.invariant (search rules) c.fixed_follow.ensures
