-- The returns in order: the decoded message is the line's; the line has none.
use Rattle.std.proofs.Common.{refl, rules}
use Rattle.answering.proofs.Steps.{message-in, no-message}
use Rattle.answering.specs.Answering.{answer_of}
use Rattle.answering.proofs.answer_line.Goals as goal

pub slice_bounds-answer_message-end : goal.slice_bounds-answer_message-end
slice_bounds-answer_message-end c =
    let fits = (message-in c.in-Some.ensures _ refl).1 in
    search rules

pub returns-in-Some : goal.returns-in-Some
returns-in-Some c = rw (message-in c.in-Some.ensures _ refl).0 c.answer_message.ensures

pub returns-in-None : goal.returns-in-None
unfolding answer_of
returns-in-None c = rw (no-message c.in-None.ensures refl) (record { wrote = c.print_other.ensures; changed = refl })
