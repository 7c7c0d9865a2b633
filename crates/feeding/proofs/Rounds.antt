-- The loop over a piece: what has been answered so far is where `answering` stands, and what is left of its steps suffices. Each turn is
-- its next step; it ends where there is no room or no whole line.
use Rattle.std.proofs.Common.{ℕ, zero, suc, ◌+◌, ◌-◌, ◌≤◌, ◌<◌, arith, ◌≡◌, refl, sym, ap, ◌∙◌, [], ◌++◌, Bool, true, false, true≢false, ◌&&◌, ◌||◌, le-leb, lt-ltb, le-ltb, ltb-false, ltb, length, take, drop, length-drop, length-take-le, drop-drop}
use Rattle.std.proofs.Math.Seq.{drop-length}
use Rattle.rules.specs.Words.{Bytes}
use Rattle.rules.specs.Program.{line_feed, greatest_line}
use Rattle.laws.proofs.Bools.{and_both, or_left, or_right}
use Rattle.std.proofs.lemmas.Bool.{lt-leb, and_left, and_right}
use Rattle.feeding.proofs.Choices.{if-true, if-false}
use Rattle.writing.specs.declared.text.Text.{Text}
use Rattle.writing.specs.Wrote.{room, Wrote}
use Rattle.writing.proofs.Texts.{wrote_none, wrote_both}
use Rattle.answering.specs.Answering.{Answered, answer_of, Answers, answer_room}
use Rattle.feeding.specs.Feeding.{index_of, Between, message_left, next, has_room, has_line, answering, keeping, answered, fed, kept, Feeds}
use Rattle.feeding.specs.declared.Fed.{Fed}

-- what the loop's variables stand for, where this text has been written
abbrev pub state_of : (t text piece : Bytes) → (begun : Bool) → (at : ℕ) → Between
state_of t text piece begun at = record { table = t; text = text; long = begun; left = drop at piece }

pub record Feeding (t₀ : Bytes) (long : Bool) (piece : Bytes) (x₀ : Text) (t : Bytes) (x : Text) (begun : Bool) (at : ℕ) : Type 0 where
  pub within : at ≤ length piece
  pub table-size : length t ≡ length t₀
  pub text : Bytes
  pub wrote : Wrote x₀ text x
  pub steps : ℕ
  pub enough : length piece ≤ at + steps
  pub same : answered (room x₀) t₀ long piece ≡ answering (room x₀) steps (state_of t text piece begun at)

pub feeding-none : (t : Bytes) (long : Bool) (piece : Bytes) (x : Text) → Feeding t long piece x t x long 0
unfolding answered
feeding-none t long piece x =
    record {
      within = omega arith;
      table-size = refl;
      text = [];
      wrote = wrote_none x;
      steps = length piece;
      enough = omega arith;
      same = refl;
    }

-- one step, and none
step : (most : ℕ) (n : ℕ) (b : Between) → has_room most b ≡ true → has_line b ≡ true → 0 < n → answering most n b ≡ answering most (n - 1) (next b)
unfolding answering
step most zero b r l h = absurd (omega arith)
step most (suc n) b r l h =
    let e : suc n - 1 ≡ n = omega arith in
    if-true (has_room most b && has_line b) _ _ (and_both (has_room most b) _ r l) ∙ ap (λ k. answering most k (next b)) (sym e)

stop : (most : ℕ) (n : ℕ) (b : Between) → (has_room most b && has_line b) ≡ false → answering most n b ≡ b
unfolding answering
stop most zero b e = refl
stop most (suc n) b e = if-false (has_room most b && has_line b) _ _ e

module _ (most : ℕ) (t : Bytes) (long : Bool) (piece : Bytes) (b : Between) (e : answered most t long piece ≡ b) where
  fed-full : has_room most b ≡ false → fed most t long piece ≡ b
  unfolding fed
  fed-full h = if-false (has_room most (answered most t long piece)) _ _ (ap (has_room most) e ∙ h) ∙ e

  fed-kept : has_room most b ≡ true → fed most t long piece ≡ keeping b
  unfolding fed
  fed-kept h = if-true (has_room most (answered most t long piece)) _ _ (ap (has_room most) e ∙ h) ∙ ap keeping e

-- the tests of the code are those of `answering`
module _ {t₀ piece t : Bytes} {x₀ x : Text} {long begun : Bool} {at : ℕ} (f : Feeding t₀ long piece x₀ t x begun at) where
  here : Between
  here = state_of t f.text piece begun at

  room-is : answer_room ≤ room x → has_room (room x₀) here ≡ true
  unfolding has_room here
  room-is h = le-leb (length f.text + answer_room) (room x₀) (omega (arith, f.wrote.size, f.wrote.ends))

  room-not : room x < answer_room → has_room (room x₀) here ≡ false
  unfolding has_room here
  room-not h = lt-leb (length f.text + answer_room) (room x₀) (omega (arith, f.wrote.size, f.wrote.ends, x.within))

  line-is : (end : ℕ) → end ≡ at + index_of line_feed (drop at piece) → end < length piece → has_line here ≡ true
  unfolding has_line here
  line-is end e h = lt-ltb (index_of line_feed (drop at piece)) (length (drop at piece)) (omega (arith, length-drop at piece, f.within))

  line-not : index_of line_feed (drop at piece) ≡ length (drop at piece) → has_line here ≡ false
  unfolding has_line here
  line-not e = le-ltb (index_of line_feed (drop at piece)) (length (drop at piece)) (omega arith)

  pub feeding-more : {t' : Bytes} {x' : Text} (end : ℕ) → answer_room ≤ room x
      → end ≡ at + index_of line_feed (drop at piece) → end < length piece → length t' ≡ length t
      → Answers (answer_of t (message_left begun (take (end - at) (drop at piece)))) x x' t'
      → Feeding t₀ long piece x₀ t' x' false (end + 1)
  unfolding next here
  feeding-more {t'} {x'} end r e h u a =
      let k : end - at ≡ index_of line_feed (drop at piece) = omega arith in
      let past : at + suc (end - at) ≡ end + 1 = omega arith in
      let left : drop (suc (end - at)) (drop at piece) ≡ drop (end + 1) piece = drop-drop (suc (end - at)) at piece ∙ ap (λ n. drop n piece) past in
      let answer : Answered = answer_of t (message_left begun (take (end - at) (drop at piece))) in
      let to : next here ≡ state_of t' (f.text ++ answer.text) piece false (end + 1) = rw (← k, left, a.changed) refl in
      record {
        within = omega arith;
        table-size = u ∙ f.table-size;
        text = f.text ++ answer.text;
        wrote = wrote_both f.wrote a.wrote;
        steps = f.steps - 1;
        enough = omega (arith, f.enough);
        same = f.same
            ∙ step (room x₀) f.steps here (room-is r) (line-is end e h) (omega (arith, f.enough))
            ∙ ap (answering (room x₀) (f.steps - 1)) to;
      }

  pub feeding-full : room x < answer_room → Feeds t₀ long piece x₀ (record { taken = at; long = begun; full = true }) x t
  unfolding here
  feeding-full r =
      let none : has_room (room x₀) here ≡ false = room-not r in
      let all : answered (room x₀) t₀ long piece ≡ here =
      f.same ∙ stop (room x₀) f.steps here (and_left (has_room (room x₀) here) _ none) in
      let is : fed (room x₀) t₀ long piece ≡ here = fed-full (room x₀) t₀ long piece here all none in
      record {
        wrote = rw is f.wrote;
        changed = rw is refl;
        begun = rw is refl;
        left = rw is refl;
        within = f.within;
        full = rw (all, none) refl;
        short = λ z. absurd (true≢false z);
      }

  pub feeding-kept : answer_room ≤ room x → index_of line_feed (drop at piece) ≡ length (drop at piece)
      → (r : Fed) → r ≡ kept (length piece) at begun → Feeds t₀ long piece x₀ r x t
  unfolding here kept keeping
  feeding-kept h e r q = go (begun || ltb greatest_line (length piece - at)) refl
    where
      some-room : has_room (room x₀) here ≡ true
      some-room = room-is h

      all : answered (room x₀) t₀ long piece ≡ here
      all =
          f.same
          ∙ stop (room x₀) f.steps here
          (and_right (has_room (room x₀) here) _ (line-not e))

      is : fed (room x₀) t₀ long piece ≡ keeping here
      is = fed-kept (room x₀) t₀ long piece here all some-room

      same_test : (begun || ltb greatest_line (length (drop at piece))) ≡ (begun || ltb greatest_line (length piece - at))
      same_test = ap (λ n. begun || ltb greatest_line n) (length-drop at piece)

      go : (b : Bool) → (begun || ltb greatest_line (length piece - at)) ≡ b → Feeds t₀ long piece x₀ r x t
      go true c =
          let said : r ≡ record { taken = length piece; long = true; full = false } =
          q ∙ if-true (begun || ltb greatest_line (length piece - at)) _ _ c in
          let state : fed (room x₀) t₀ long piece ≡ record { table = t; text = f.text; long = true; left = [] } =
          is ∙ if-true (begun || ltb greatest_line (length (drop at piece))) _ _ (same_test ∙ c) in
          rw said
          (record {
            wrote = rw state f.wrote;
            changed = rw state refl;
            begun = rw state refl;
            left = rw state (drop-length piece);
            within = omega arith;
            full = rw (all, some-room) refl;
            short = λ z. omega arith;
          })
      go false c =
          let said : r ≡ record { taken = at; long = false; full = false } =
          q ∙ if-false (begun || ltb greatest_line (length piece - at)) _ _ c in
          let state : fed (room x₀) t₀ long piece ≡ here =
          is ∙ if-false (begun || ltb greatest_line (length (drop at piece))) _ _ (same_test ∙ c) in
          let most = ltb-false greatest_line (length piece - at) (or_right begun _ c) in
          rw said
          (record {
            wrote = rw state f.wrote;
            changed = rw state refl;
            begun = rw state (sym (or_left begun _ c));
            left = rw state refl;
            within = f.within;
            full = rw (all, some-room) refl;
            short = λ z. omega arith;
          })
