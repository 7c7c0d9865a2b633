-- The flag, the fields and the line feed follow each other.
use Rattle.printing.specs.Printing.{printed_reply}
use Rattle.writing.proofs.Texts.{wrote_both}
use Rattle.printing.proofs.print.Goals as goal

pub returns : goal.returns
unfolding printed_reply
returns c = rw (← c.flag.ensures) (wrote_both (wrote_both c.put.ensures c.put_fields.ensures.wrote) c.put-2.ensures)
