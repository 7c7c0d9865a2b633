-- At the end none is left; before it the first request is the first that is left.
use Rattle.std.proofs.Common.{rules}
use Rattle.laws.proofs.WordParts.{rest_part}
use Rattle.requests.proofs.Steps.{requests-end}
use Rattle.series.proofs.Cursor.{first-left}
use Rattle.series.proofs.SeriesIterator.next.Goals as goal

pub returns-then-is_empty-clause-steps : goal.returns-then-is_empty-clause-steps
returns-then-is_empty-clause-steps c = let none = requests-end c.args.self.now.rest.now (search rules) in (none, none)

pub returns-clause-steps : goal.returns-clause-steps
returns-clause-steps c = first-left c.args.self.now c.first_request-request.ensures _ (rest_part _ c.args.self.now.rest.now)
