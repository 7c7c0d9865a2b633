-- In whatever way the input is cut, a run prints what the rules print for the whole of it. What is still to be printed at a place is
-- `rest`: the answers of the lines of what is left, behind the beginning of a line that was dropped for its length. Each part of a turn
-- moves answers from `rest` to what has been printed, and leaves both together the same.
use Rattle.std.proofs.Common.{ℕ, zero, suc, ◌≤◌, ◌<◌, arith, ◌≡◌, refl, sym, ap, ◌∙◌, List, [], ◌∷◌, ◌++◌, append_assoc, append-nil, Bool, true, false, true≢false, ◌&&◌, ◌||◌, le-ltb, ltb-true, ltb-false, eqb, leb, ltb, length, take, drop, replicate, length-append, length-drop}
use Rattle.std.proofs.Math.Option.{none}
use Rattle.std.proofs.Math.ListN.{length-replicate}
use Rattle.rules.specs.Words.{Bytes}
use Rattle.rules.specs.Program.{line_feed, greatest_line, last_line, lines_from, lines, message_of, program_table, answers_from, program}
use Rattle.std.proofs.lemmas.Bool.{lt-leb, and_parts, and_right}
use Rattle.feeding.proofs.Choices.{if-true, if-false}
use Rattle.answering.specs.Answering.{answer_of}
use Rattle.answering.proofs.Steps.{answers-step}
use Rattle.feeding.specs.Feeding.{index_after, index_of, Between, message_left, next, has_room, has_line, answering, keeping, answered, fed, finished, turn, run, joined, ran, written}

pub finished-empty : (t line : Bytes) → length line ≡ 0 → finished t false line ≡ record { text = []; table = t }
unfolding finished
finished-empty t [] e = refl
finished-empty t (b ∷ bs) e = absurd (omega arith)

pub finished-left : (t line : Bytes) (long : Bool) → (long ≡ false → length line ≡ 0 → ⊥) → finished t long line ≡ answer_of t (message_left long line)
unfolding finished message_left
finished-left t line true n = refl
finished-left t [] false n = absurd (n refl refl)
finished-left t (b ∷ bs) false n = refl

-- a byte that is a line feed, and one that is not
module _ (b : ℕ) (rest : Bytes) where
  index-here : eqb b line_feed ≡ true → index_of line_feed (b ∷ rest) ≡ 0
  unfolding index_of index_after
  index-here e = ap (λ t. index_after t (index_of line_feed rest)) e

  index-past : eqb b line_feed ≡ false → index_of line_feed (b ∷ rest) ≡ suc (index_of line_feed rest)
  unfolding index_of index_after
  index-past e = ap (λ t. index_after t (index_of line_feed rest)) e

  lines-feed : (line : Bytes) → eqb b line_feed ≡ true → lines_from line (b ∷ rest) ≡ line ∷ lines_from [] rest
  unfolding lines_from
  lines-feed line e = if-true (eqb b line_feed) _ _ e

  lines-byte : (line : Bytes) → eqb b line_feed ≡ false → lines_from line (b ∷ rest) ≡ lines_from (line ++ (b ∷ [])) rest
  unfolding lines_from
  lines-byte line e = if-false (eqb b line_feed) _ _ e

-- the lines of bytes with a line feed, and of bytes without
abbrev NextLine : (line left more : Bytes) → Type 0
NextLine line left more =
    index_of line_feed left < length left
    → lines_from line (left ++ more)
    ≡ (line ++ take (index_of line_feed left) left) ∷ lines_from [] (drop (suc (index_of line_feed left)) left ++ more)

lines_next : (line left more : Bytes) → NextLine line left more
lines_next line [] more h = absurd (omega arith)
lines_next line (b ∷ left) more h = go (eqb b line_feed) refl (lines_next (line ++ (b ∷ [])) left more)
  where
    go : (t : Bool) → eqb b line_feed ≡ t → NextLine (line ++ (b ∷ [])) left more
        → lines_from line (b ∷ (left ++ more))
        ≡ (line ++ take (index_of line_feed (b ∷ left)) (b ∷ left)) ∷ lines_from [] (drop (suc (index_of line_feed (b ∷ left))) (b ∷ left) ++ more)
    go true e again =
        rw (index-here b left e) (lines-feed b (left ++ more) line e ∙ ap (λ (l : Bytes). l ∷ lines_from [] (left ++ more)) (sym (append-nil line)))
    go false e again =
        let past = index-past b left e in
        rw past
        (lines-byte b (left ++ more) line e
        ∙ again (omega arith)
        ∙ ap (λ (l : Bytes). l ∷ lines_from [] (drop (suc (index_of line_feed left)) left ++ more)) (append_assoc line (b ∷ []) (take (index_of line_feed left) left)))

abbrev NoLine : (line left more : Bytes) → Type 0
NoLine line left more = length left ≤ index_of line_feed left → lines_from line (left ++ more) ≡ lines_from (line ++ left) more

lines_none : (line left more : Bytes) → NoLine line left more
lines_none line [] more h = ap (λ (l : Bytes). lines_from l more) (sym (append-nil line))
lines_none line (b ∷ left) more h = go (eqb b line_feed) refl (lines_none (line ++ (b ∷ [])) left more)
  where
    go : (t : Bool) → eqb b line_feed ≡ t → NoLine (line ++ (b ∷ [])) left more
        → lines_from line (b ∷ (left ++ more)) ≡ lines_from (line ++ (b ∷ left)) more
    go true e again = let here = index-here b left e in absurd (omega arith)
    go false e again =
        let past = index-past b left e in
        lines-byte b (left ++ more) line e
        ∙ again (omega arith)
        ∙ ap (λ (l : Bytes). lines_from l more) (append_assoc line (b ∷ []) left)

-- two beginnings of a line that are both too long are answered the same
too_long : (line : Bytes) → greatest_line < length line → message_of line ≡ none
unfolding message_of
too_long line h = if-false (leb (length line) greatest_line) _ _ (lt-leb (length line) greatest_line h)

answer-too-long : (t p q : Bytes) (more : List Bytes) → greatest_line < length p → greatest_line < length q
    → answers_from t (p ∷ more) ≡ answers_from t (q ∷ more)
answer-too-long t p q more h k =
    answers-step t p more ∙ rw (too_long p h, ← too_long q k) (sym (answers-step t q more))

last-is : (line : Bytes) → 0 < length line → lines_from line [] ≡ line ∷ []
unfolding lines_from last_line
last-is [] h = absurd (omega arith)
last-is (b ∷ bs) h = refl

same-too-long : (t p q input : Bytes) → greatest_line < length p → greatest_line < length q
    → answers_from t (lines_from p input) ≡ answers_from t (lines_from q input)
same-too-long t p q [] h k = rw (last-is p (omega arith), last-is q (omega arith)) (answer-too-long t p q [] h k)
same-too-long t p q (b ∷ rest) h k =
    go (eqb b line_feed) refl
    (same-too-long t (p ++ (b ∷ [])) (q ++ (b ∷ [])) rest (simp length-append (omega arith)) (simp length-append (omega arith)))
  where
    go : (c : Bool) → eqb b line_feed ≡ c
        → answers_from t (lines_from (p ++ (b ∷ [])) rest) ≡ answers_from t (lines_from (q ++ (b ∷ [])) rest)
        → answers_from t (lines_from p (b ∷ rest)) ≡ answers_from t (lines_from q (b ∷ rest))
    go true e again = rw (lines-feed b rest p e, lines-feed b rest q e) (answer-too-long t p q (lines_from [] rest) h k)
    go false e again = rw (lines-byte b rest p e, lines-byte b rest q e) again

-- the beginning of a line that was dropped: too long, or nothing
abbrev Dropped : (long : Bool) → Bytes → Type 0
Dropped true p = greatest_line < length p
Dropped false p = p ≡ []

begun : (long : Bool) → Bytes
begun true = replicate (suc greatest_line) 0
begun false = []

begun-dropped : (long : Bool) → Dropped long (begun long)
unfolding begun
begun-dropped true = simp length-replicate (omega arith)
begun-dropped false = refl

-- what has been printed at a place, and what is still to be printed
whole : Between → (dropped more : Bytes) → Bytes
whole b p more = b.text ++ answers_from b.table (lines_from p (b.left ++ more))

same-dropped : (b : Between) (p q more : Bytes) → Dropped b.long p → Dropped b.long q → whole b p more ≡ whole b q more
unfolding whole
same-dropped b p q more d e = ap (λ (x : Bytes). b.text ++ x) (go b.long d e)
  where
    go : (long : Bool) → Dropped long p → Dropped long q
        → answers_from b.table (lines_from p (b.left ++ more)) ≡ answers_from b.table (lines_from q (b.left ++ more))
    go true d e = same-too-long b.table p q (b.left ++ more) d e
    go false d e = ap (λ (x : Bytes). answers_from b.table (lines_from x (b.left ++ more))) (d ∙ sym e)

-- the message of a line behind such a beginning
message-behind : (long : Bool) (p line : Bytes) → Dropped long p → message_of (p ++ line) ≡ message_left long line
unfolding message_left
message-behind true p line d = too_long (p ++ line) (simp length-append (omega arith))
message-behind false p line d = rw d refl

-- the next line's answer moves
next-whole : (b : Between) (p more : Bytes) → Dropped b.long p → has_line b ≡ true → whole b p more ≡ whole (next b) [] more
unfolding whole next has_line
next-whole b p more d h =
    let line : Bytes = take (index_of line_feed b.left) b.left in
    let others : List Bytes = lines_from [] (drop (suc (index_of line_feed b.left)) b.left ++ more) in
    let cut = lines_next p b.left more (ltb-true (index_of line_feed b.left) (length b.left) h) in
    ap (λ (x : Bytes). b.text ++ x)
    (ap (answers_from b.table) cut
    ∙ answers-step b.table (p ++ line) others
    ∙ ap (λ o. (answer_of b.table o).text ++ answers_from (answer_of b.table o).table others) (message-behind b.long p line d))
    ∙ sym (append_assoc b.text (answer_of b.table (message_left b.long line)).text _)

next-shorter : (b : Between) (n : ℕ) → length b.left ≤ suc n → length (next b).left ≤ n
unfolding next
next-shorter b n h = simp length-drop (omega arith)

empty-none : (b : Between) → length b.left ≡ 0 → has_line b ≡ false
unfolding has_line
empty-none b h = le-ltb (index_of line_feed b.left) (length b.left) (omega arith)

no_line : (b : Between) → has_line b ≡ false → length b.left ≤ index_of line_feed b.left
unfolding has_line
no_line b h = ltb-false (index_of line_feed b.left) (length b.left) h

-- so do those of all whole lines for which there is room
answering-whole : (room n : ℕ) (b : Between) (p q more : Bytes) → Dropped b.long p → Dropped (answering room n b).long q
    → whole b p more ≡ whole (answering room n b) q more
unfolding answering next
answering-whole room zero b p q more d e = same-dropped b p q more d e
answering-whole room (suc n) b p q more d e =
    go (has_room room b && has_line b) refl (answering-whole room n (next b) [] q more refl) e
  where
    go : (t : Bool) → (has_room room b && has_line b) ≡ t
        → (Dropped (answering room n (next b)).long q → whole (next b) [] more ≡ whole (answering room n (next b)) q more)
        → Dropped (elim t as (λ x. Between) [ true ↦ answering room n (next b) | false ↦ b ]).long q
        → whole b p more ≡ whole (elim t [ true ↦ answering room n (next b) | false ↦ b ]) q more
    go true t again e = next-whole b p more d (and_parts (has_room room b) _ t).1 ∙ again e
    go false t again e = same-dropped b p q more d e

-- which leaves no room or no whole line
answering-ends : (room n : ℕ) (b : Between) → length b.left ≤ n
    → (has_room room (answering room n b) && has_line (answering room n b)) ≡ false
unfolding answering
answering-ends room zero b h = and_right (has_room room b) _ (empty-none b (omega arith))
answering-ends room (suc n) b h = go (has_room room b && has_line b) refl (answering-ends room n (next b) (next-shorter b n h))
  where
    go : (t : Bool) → (has_room room b && has_line b) ≡ t
        → (has_room room (answering room n (next b)) && has_line (answering room n (next b))) ≡ false
        → (has_room room (elim t [ true ↦ answering room n (next b) | false ↦ b ]) && has_line (elim t [ true ↦ answering room n (next b) | false ↦ b ]))
        ≡ false
    go true t again = again
    go false t again = t

-- a line that is not finished stays, or becomes one that was dropped
grown : (long : Bool) (p left : Bytes) → Dropped long p → (long || ltb greatest_line (length left)) ≡ true → greatest_line < length (p ++ left)
grown true p left d e = simp length-append (omega arith)
grown false p left d e = let l = ltb-true greatest_line (length left) e in rw d l

keeping-whole : (b : Between) (p q more : Bytes) → has_line b ≡ false → Dropped b.long p → Dropped (keeping b).long q
    → whole b p more ≡ whole (keeping b) q more
unfolding keeping whole
keeping-whole b p q more h d e = go (b.long || ltb greatest_line (length b.left)) refl e
  where
    dropped : Between
    dropped = record { table = b.table; text = b.text; long = true; left = [] }

    go : (t : Bool) → (b.long || ltb greatest_line (length b.left)) ≡ t → Dropped (elim t as (λ x. Between) [ true ↦ dropped | false ↦ b ]).long q
        → whole b p more ≡ whole (elim t [ true ↦ dropped | false ↦ b ]) q more
    go true t e =
        ap (λ (x : Bytes). b.text ++ x)
        (ap (answers_from b.table) (lines_none p b.left more (no_line b h))
        ∙ same-too-long b.table (p ++ b.left) q more (grown b.long p b.left d t) e)
    go false t e = same-dropped b p q more d e

and-true-second : (a b : Bool) → a ≡ true → (a && b) ≡ false → b ≡ false
and-true-second true b p q = q
and-true-second false b p q = absurd (true≢false (sym p))

-- a piece
fed-whole : (room : ℕ) (t : Bytes) (long : Bool) (piece p q more : Bytes) → Dropped long p → Dropped (fed room t long piece).long q
    → answers_from t (lines_from p (piece ++ more)) ≡ whole (fed room t long piece) q more
unfolding whole fed answered
fed-whole room t long piece p q more d e = go (has_room room all) refl e
  where
    all : Between
    all = answered room t long piece

    answers : (r : Bytes) → Dropped all.long r → answers_from t (lines_from p (piece ++ more)) ≡ whole all r more
    answers r f = answering-whole room (length piece) (record { table = t; text = []; long = long; left = piece }) p r more d f

    go : (c : Bool) → has_room room all ≡ c → Dropped (elim c as (λ x. Between) [ true ↦ keeping all | false ↦ all ]).long q
        → answers_from t (lines_from p (piece ++ more)) ≡ whole (elim c [ true ↦ keeping all | false ↦ all ]) q more
    go true c e =
        let ends : has_line all ≡ false =
        and-true-second (has_room room all) _ c (answering-ends room (length piece) (record { table = t; text = []; long = long; left = piece }) (omega arith)) in
        answers (begun all.long) (begun-dropped all.long) ∙ keeping-whole all (begun all.long) q more ends (begun-dropped all.long) e
    go false c e = answers q e

-- a turn, and a run
turn-whole : (room : ℕ) (b : Between) (piece p q more : Bytes) → Dropped b.long p → Dropped (turn room b piece).long q
    → whole b p (piece ++ more) ≡ whole (turn room b piece) q more
unfolding whole turn
turn-whole room b piece p q more d e =
    let f : Between = fed room b.table b.long (b.left ++ piece) in
    ap (λ (x : Bytes). b.text ++ x)
    (ap (λ (x : Bytes). answers_from b.table (lines_from p x)) (sym (append_assoc b.left piece more))
    ∙ fed-whole room b.table b.long (b.left ++ piece) p q more d e)
    ∙ sym (append_assoc b.text f.text _)

run-whole : (room : ℕ) (b : Between) (pieces : List Bytes) (p q : Bytes) → Dropped b.long p → Dropped (run room b pieces).long q
    → whole b p (joined pieces) ≡ whole (run room b pieces) q []
unfolding run joined
run-whole room b [] p q d e = same-dropped b p q [] d e
run-whole room b (piece ∷ more) p q d e =
    let after_turn : Between = turn room b piece in
    turn-whole room b piece p (begun after_turn.long) (joined more) d (begun-dropped after_turn.long)
    ∙ run-whole room after_turn more (begun after_turn.long) q (begun-dropped after_turn.long) e

-- the last line
one_line : (t line : Bytes) → answers_from t (line ∷ []) ≡ (answer_of t (message_of line)).text
unfolding answers_from
one_line t line = answers-step t line [] ∙ append-nil (answer_of t (message_of line)).text

finished-whole : (t : Bytes) (long : Bool) (left q : Bytes) → Dropped long q → answers_from t (lines_from (q ++ left) []) ≡ (finished t long left).text
unfolding finished answers_from lines_from last_line
finished-whole t true left q d =
    let l : greatest_line < length (q ++ left) = simp length-append (omega arith) in
    ap (answers_from t) (last-is (q ++ left) (omega arith))
    ∙ one_line t (q ++ left)
    ∙ ap (λ o. (answer_of t o).text) (too_long (q ++ left) l)
finished-whole t false [] q d = rw d refl
finished-whole t false (b ∷ bs) q d = rw d (one_line t (b ∷ bs))

pub run-prints : (room : ℕ) (pieces : List Bytes) → has_line (ran room pieces) ≡ false → written room pieces ≡ program (joined pieces)
unfolding written ran whole program lines
run-prints room pieces h =
    let b : Between = ran room pieces in
    let q : Bytes = begun b.long in
    let answers =
    run-whole room (record { table = program_table; text = []; long = false; left = [] }) pieces [] q refl (begun-dropped b.long) in
    let last : answers_from b.table (lines_from q (b.left ++ [])) ≡ (finished b.table b.long b.left).text =
    ap (answers_from b.table) (lines_none q b.left [] (no_line b h)) ∙ finished-whole b.table b.long b.left q (begun-dropped b.long) in
    sym (answers ∙ ap (λ (x : Bytes). b.text ++ x) last)
