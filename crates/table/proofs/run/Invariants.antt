-- The invariant is `Run`: the records passed are occupied, and whether the keys ascend is still whether those from the last of them
-- on do. A record whose value is zero ends them, and a key that is not above the one before it decides.
use Rattle.table.proofs.Forms.{Run}
use Rattle.table.proofs.run.Given as goal

abbrev pub invariant-loop-i : goal.invariant-loop-i
invariant-loop-i l = Run l.t l.n l.i
