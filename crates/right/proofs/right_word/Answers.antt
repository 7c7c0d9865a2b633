-- Bytes behind zeros have the number of the bytes.
use Rattle.right.proofs.Right.{right-held}
use Rattle.right.proofs.right_word.Goals as goal

pub returns : goal.returns
returns c = right-held _ _ c.requires c.copy_from_slice.ensures.after
