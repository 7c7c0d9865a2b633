-- What `close` leaves: the bytes from `from` to `end` have moved to `at`, and there are zeros behind them, from `last` to `stop`.
use Rattle.std.proofs.Common.{ℕ, ◌≡◌, ◌∙◌, ◌+◌, ◌-◌, ◌≤◌, ◌++◌, length, take, drop, replicate, append_assoc, length-drop, arith}
use Rattle.std.proofs.Math.Seq.{paste, take-paste, drop-paste}
use borrow.Rule.Slice.PartMut.{put_mid, Post-is, mid_len}
use Rattle.rules.specs.Words.{Bytes}

pub close-leaves : (t moved cleared : Bytes) (at from end last stop : ℕ) → at ≤ from → from ≤ end → end ≤ length t
    → moved ≡ paste t at (drop from t) (end - from)
    → cleared ≡ replicate (length (take (stop - last) (drop last moved))) 0
    → last ≡ at + (end - from)
    → stop ≡ end
    → put_mid last (stop - last) moved cleared ≡ take at t ++ (take (end - from) (drop from t) ++ (replicate (from - at) 0 ++ drop end t))
close-leaves t moved cleared at from end last stop h l g e ez begins ends =
    let part : end - from ≤ length (drop from t) = simp length-drop (omega arith) in
    let front : take last moved ≡ take at t ++ take (end - from) (drop from t) = rw (begins, e) (take-paste t at (drop from t) (end - from) (omega arith) part) in
    let behind : drop last moved ≡ drop last t = rw (begins, e) (drop-paste t at (drop from t) (end - from) (omega arith) part) in
    let gap : stop - last ≡ from - at = omega arith in
    let zeros : cleared ≡ replicate (from - at) 0 = ez ∙ rw (behind, ends, mid_len last end t g) (rw (← ends, gap)) in
    rw (front, zeros, behind, ends, Post-is last end t (omega arith)) (append_assoc (take at t) (take (end - from) (drop from t)) (replicate (from - at) 0 ++ drop end t))
