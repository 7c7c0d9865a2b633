-- The part that is lent is the value's, and what stands around it stays.
use Rattle.std.proofs.Common.{ℕ, ◌≡◌, ◌+◌, ◌*◌, ◌-◌, ◌≤◌, ◌++◌, take, drop, arith}
use borrow.Rule.Slice.PartMut.{put_mid, Post-is}
use Rattle.rules.specs.Words.{Bytes}
use Rattle.gaps.specs.Gaps.{replaced}
use Rattle.gaps.proofs.replace.Goals as goal

replace-leaves : (t value now : Bytes) (at end : ℕ) → at ≤ end → now ≡ value → put_mid at (end - at) t now ≡ take at t ++ (value ++ drop end t)
replace-leaves t value now at end h e = rw (e, Post-is at end t h)

pub returns : goal.returns
unfolding replaced
returns c =
    let a = c.args in
    let copy = c.copy_from_slice in
    replace-leaves a.t.now a.value.now copy.new.self (64 * a.i + 32) (64 * a.i + 64) (omega arith) copy.ensures.after
