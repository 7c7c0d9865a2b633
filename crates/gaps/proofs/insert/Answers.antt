-- The records that move down, and the key and the value put before them, leave what `inserted` says. From where the records move, and
-- where to, is what the code says; that these are the places wanted are equations.
use Rattle.std.proofs.Common.{◌*◌, arith, rules}
use Rattle.gaps.specs.Gaps.{inserted}
use Rattle.gaps.proofs.Opens.{insert-leaves, moved-down}
use Rattle.gaps.proofs.insert.Goals as goal

pub returns : goal.returns
unfolding inserted
returns c =
    let a = c.args in
    let first = c.copy_from_slice in
    let second = c.copy_from_slice-2 in
    insert-leaves a.t.now c.copy_within.new.self (64 * a.i) (64 * a.used) (omega arith) (omega arith)
    (moved-down a.t.now c.copy_within.new.self (64 * a.i) 64 (64 * a.used) _ _ c.copy_within.ensures.after (omega arith) (omega arith))
    a.key.now a.value.now first.new.self second.new.self first.ensures.after second.ensures.after (search rules) (search rules)
