-- The invariant is `Feeding`: what has been answered so far is where `answering` stands.
use Rattle.feeding.proofs.Rounds.{Feeding}
use Rattle.std.proofs.Common.{◌-◌, length}
use Rattle.feeding.proofs.feed.Given as goal

abbrev pub invariant-loop-length : goal.invariant-loop-length
invariant-loop-length l = Feeding l.initial.t l.long l.piece l.initial.text l.t l.text l.begun l.at

abbrev pub decreases-loop-length : goal.decreases-loop-length
decreases-loop-length l = length l.piece - l.at
