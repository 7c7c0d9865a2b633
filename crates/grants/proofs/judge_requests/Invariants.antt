-- The loop keeps `Going`: the requests before are contained, and their tests are counted. What was read for them is kept
-- for the next search.
use Rattle.rules.specs.Words.{num}
use Rattle.rules.specs.Table.{store}
use Rattle.grants.proofs.Going.{Going}
use Rattle.grants.proofs.judge_requests.Given as goal

abbrev pub invariant-loop-request : goal.invariant-loop-request
invariant-loop-request l = Going (store l.table.bytes.now) l.d (num l.registrar) l.held l.request-iterator l.tests
