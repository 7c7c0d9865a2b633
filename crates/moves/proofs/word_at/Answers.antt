-- The part's end less its start is 32, so the part is the word.
use Rattle.std.proofs.Common.{ℕ, ◌≡◌, ◌+◌, ◌-◌, ◌≤◌, length, take, drop, arith, length-take, length-drop, rules}
use Rattle.rules.specs.Words.{Bytes, word_at}
use Rattle.moves.specs.Moves.{WordPart}
use Rattle.moves.proofs.word_at.Goals as goal

word-part : (bs : Bytes) (at : ℕ) → at + 32 ≤ length bs → WordPart bs at (take (at + 32 - at) (drop at bs))
unfolding word_at
word-part bs at h =
    let n : at + 32 - at ≡ 32 = omega arith in
    record {
      is = rw n;
      size = simp (length-take, length-drop) (omega arith);
      number = rw n;
    }

pub returns : goal.returns
returns c =
    let part : c.unwrap.result.now ≡ take (c.args.at + 32 - c.args.at) (drop c.args.at c.args.bytes.now) = search rules in
    rw part (word-part _ _ c.requires)
