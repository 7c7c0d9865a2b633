-- What stands in a table whose bytes from `at` to `end` have moved down by `gap`: before `at` all is as it was, and behind the gap are
-- the bytes that moved, then those from `end + gap` on. A record, or zeros, are then put into the gap.
use Rattle.std.proofs.Common.{ℕ, ◌≡◌, ◌∙◌, ap, ◌+◌, ◌-◌, ◌≤◌, ◌++◌, length, take, drop, replicate, append_assoc, arith, length-append}
use Rattle.std.proofs.Common.{length-drop, length-take-le, take-take, drop_at}
use Rattle.std.proofs.Math.Seq.{paste, length-paste}
use Rattle.std.proofs.lemmas.List.{take-append-le}
use Rattle.std.proofs.lemmas.List.Edits.{paste-paste, paste_all}
use Rattle.std.proofs.lemmas.Slice.{put_mid-paste}
use borrow.Rule.Slice.PartMut.{put_mid, Post-is, mid_len}
use Rattle.rules.specs.Words.{Bytes}

module _ (t moved : Bytes) (at gap end : ℕ) (h : at ≤ end) (g : end + gap ≤ length t) (e : moved ≡ paste t (at + gap) (drop at t) (end - at)) where
  abbrev behind : Bytes
  behind = take (end - at) (drop at t) ++ drop (end + gap) t

  size : length moved ≡ length t
  size = rw e (length-paste t (at + gap) (drop at t) (end - at) (omega arith) (simp length-drop (omega arith)))

  front : length (take (at + gap) t) ≡ at + gap
  front = length-take-le (at + gap) t (omega arith)

  -- the clause of `copy_within`, with the moved bytes' end by name
  is : moved ≡ take (at + gap) t ++ behind
  is =
      let next : at + gap + (end - at) ≡ end + gap = omega arith in
      rw (e, next) (append_assoc (take (at + gap) t) (take (end - at) (drop at t)) (drop (end + gap) t))

  before-same : take at moved ≡ take at t
  before-same = rw is (take-append-le at (take (at + gap) t) behind (omega (arith, front)) ∙ take-take at (at + gap) t (omega arith))

  behind-moved : drop (at + gap) moved ≡ behind
  behind-moved = rw is (drop_at (take (at + gap) t) behind (at + gap) front)

  pub open-leaves : (cleared : Bytes) → cleared ≡ replicate (length (take (at + gap - at) (drop at moved))) 0
      → put_mid at (at + gap - at) moved cleared ≡ take at t ++ (replicate gap 0 ++ behind)
  open-leaves cleared z =
      let wide : at + gap - at ≡ gap = omega arith in
      let zeros : cleared ≡ replicate gap 0 = z ∙ rw (mid_len at (at + gap) moved (omega (arith, size)), wide) in
      rw (before-same, zeros, Post-is at (at + gap) moved (omega arith), behind-moved)

-- the bytes that move are those from `at` on, and they go to `at + gap`
pub moved-down : (t moved : Bytes) (at gap end from to : ℕ) → moved ≡ paste t to (drop from t) (end - from) → from ≡ at → to ≡ at + gap
    → moved ≡ paste t (at + gap) (drop at t) (end - at)
moved-down t moved at gap end from to e starts goes = rw (← goes, ← starts) e

-- a key, and a value behind it
module _ (t moved : Bytes) (at end : ℕ) (h : at ≤ end) (g : end + 64 ≤ length t) (e : moved ≡ paste t (at + 64) (drop at t) (end - at)) where
  pub insert-leaves : (key value key' value' : Bytes) → key' ≡ key → value' ≡ value → length key ≡ 32 → length value ≡ 32
      → put_mid (at + 32) (at + 64 - (at + 32)) (put_mid at (at + 32 - at) moved key') value'
      ≡ take at t ++ (key ++ (value ++ behind t moved at 64 end h g e))
  insert-leaves key value key' value' ek ev hk hv =
      let first : put_mid at (at + 32 - at) moved key' ≡ paste moved at key 32 = put_mid-paste at (at + 32 - at) moved key' key 32 ek (omega arith) (omega arith) in
      rw first (
      put_mid-paste (at + 32) (at + 64 - (at + 32)) (paste moved at key 32) value' value 32 ev (omega arith) (omega arith)
      ∙ paste-paste moved at key value 32 32 (omega arith) (omega arith) (omega (arith, size t moved at 64 end h g e))
      ∙ paste_all moved at (key ++ value) 64 (simp length-append (omega arith))
      ∙ rw (before-same t moved at 64 end h g e, behind-moved t moved at 64 end h g e)
      (ap (λ (bs : Bytes). take at t ++ bs) (append_assoc key value (behind t moved at 64 end h g e))))
