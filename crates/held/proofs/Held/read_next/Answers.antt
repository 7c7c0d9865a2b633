-- If it was not read yet, the copies of the first i end where its own begins.
-- What is put there is the next, and those before stay.
use Rattle.std.proofs.Common.{arith}
use Rattle.held.proofs.Copies.{reached-behind}
use Rattle.held.proofs.Held.read_next.Goals as goal

pub returns : goal.returns
returns c =
    reached-behind c.requires.reached c.requires.i_le_read.0 (omega (arith, c.requires.i_le_read.1))
    c.read_words-self.ensures.held
