-- The records that move down, and the zeros in their place, leave what `opened` says.
use Rattle.std.proofs.Common.{◌*◌, arith}
use Rattle.gaps.specs.Gaps.{opened}
use Rattle.gaps.proofs.Opens.{open-leaves}
use Rattle.gaps.proofs.make_room.Goals as goal

pub returns : goal.returns
unfolding opened
returns c =
    let a = c.args in
    open-leaves a.t.now c.copy_within.new.self (64 * a.i) (64 * a.count) (64 * a.used) (omega arith) (omega arith) c.copy_within.ensures.after
    c.fill.new.self (c.fill.ensures.after (λ y e. e))
