-- A line's answer is one step of the rules' `answers_from`; and the reply, the payload and the decoded message give that answer.
use Rattle.std.proofs.Common.{ℕ, ◌-◌, ◌≤◌, arith, ◌≡◌, refl, sym, ap, ◌∙◌, List, [], ◌∷◌, ◌++◌, append_assoc, length, take, length-take, length-drop, Option as Said, Some, None, Ok, Err}
use Rattle.std.proofs.Math.Nat.{sub-zero}
use Rattle.std.proofs.Math.Option.{Option, none, some}
use Rattle.rules.specs.Words.{Bytes}
use Rattle.rules.specs.Messages.{data_of, payload_of}
use Rattle.rules.specs.Answers.{Answer, refused, done, called, registered, looked}
use Rattle.rules.specs.Calls.{system_call}
use Rattle.rules.specs.Source.{reply_of, refused_reply, OwnPayload, fields_of, Reply}
use Rattle.rules.specs.Program.{line_feed, question_mark, message_of, printed, program_code, program_mask, answers_from}
use Rattle.rules.specs.declared.Success.TheVariants.{Done, Called, Registered, Looked}
use Rattle.results.specs.Results.{Gives}
use Rattle.laws.proofs.OwnPayload.{own-payload}
use Rattle.payloads.specs.Payloads.{PayloadPromise}
use Rattle.digits.specs.Decoding.{said, Decodes}
use Rattle.writing.specs.declared.text.Text.{Text}
use Rattle.writing.specs.Wrote.{Wrote}
use Rattle.printing.specs.Printing.{printed_reply, other_line}
use Rattle.printing.proofs.Lines.{payload_in, printed-reply}
use Rattle.answering.specs.Answering.{answer_of, Answers}

pub answers-step : (t line : Bytes) (more : List Bytes)
    → answers_from t (line ∷ more) ≡ (answer_of t (message_of line)).text ++ answers_from (answer_of t (message_of line)).table more
unfolding answers_from answer_of other_line
answers-step t line more = go (message_of line)
  where
    go : (o : Option Bytes)
        → (elim o [
          | none ↦ question_mark ∷ line_feed ∷ answers_from t more
          | some m ↦ printed (system_call t m program_code program_mask).answer
              ++ (line_feed ∷ answers_from (system_call t m program_code program_mask).table more)
        ])
        ≡ (answer_of t o).text ++ answers_from (answer_of t o).table more
    go none = refl
    go (some m) = sym (append_assoc (printed (system_call t m program_code program_mask).answer) (line_feed ∷ []) _)

-- the payload that belongs to an answer's reply is the answer's
own : (m : Bytes) (a : Answer) → OwnPayload m a → (p : Bytes) → PayloadPromise m (reply_of a) p → p ≡ payload_in a
unfolding reply_of fields_of payload_in
own m (refused c) h p kept = kept
own m done h p kept = kept
own m (called a q) h p kept = kept ∙ sym h
own m (registered n) h p kept = kept
own m (looked v) h p kept = kept

-- it is a part of the message
part-short : (m : Bytes) (r : Reply) → length (fields_of r m).payload ≤ length m
unfolding fields_of payload_of data_of
part-short m (Err c) = omega arith
part-short m (Ok Done) = omega arith
part-short m (Ok (Called a)) = simp length-drop (omega arith)
part-short m (Ok (Registered n)) = omega arith
part-short m (Ok (Looked v)) = omega arith

pub payload-short : (m : Bytes) (r : Reply) (p : Bytes) → PayloadPromise m r p → length p ≤ length m
payload-short m r p kept = rw kept (part-short m r)

pub message-answered : (t m : Bytes) {t' p : Bytes} {before after : Text} {r : Reply} → Gives (system_call t m program_code program_mask) r t'
    → PayloadPromise m r p → Wrote before (printed_reply r p ++ (line_feed ∷ [])) after → Answers (answer_of t (some m)) before after t'
unfolding answer_of
message-answered t m {p = p} {r = r} g kept w =
    let a : Answer = (system_call t m program_code program_mask).answer in
    let kept_of : PayloadPromise m (reply_of a) p = rw g.reply at kept in
    let same : printed_reply r p ≡ printed a =
    rw (g.reply, own m a (own-payload t m program_code program_mask) p kept_of) (printed-reply a) in
    record { wrote = rw same at w; changed = g.table }

-- a line that is said to be a message of n bytes has the buffer's part from 0 to n as its message
module _ {line before after : Bytes} {r : Said ℕ} (d : Decodes line before r after) where
  pub message-in : (n : ℕ) → r ≡ Some n → (message_of line ≡ some (take (n - 0) after)) × (n ≤ length after)
  unfolding said
  message-in n e = go (message_of line) refl
    where
      go : (o : Option Bytes) → message_of line ≡ o → (message_of line ≡ some (take (n - 0) after)) × (n ≤ length after)
      go none q = let told : Some n ≡ said none = sym e ∙ d.told ∙ ap said q in cc
      go (some m) q =
          let told : Some n ≡ said (some m) = sym e ∙ d.told ∙ ap said q in
          let long : n ≡ length m = cc in
          let front : take n after ≡ m = rw long (d.message m q) in
          (q ∙ ap some (sym (rw (sub-zero n) front)), omega (arith, long, ap length front, length-take n after))

  pub no-message : r ≡ None → message_of line ≡ none
  unfolding said
  no-message e = go (message_of line) refl
    where
      go : (o : Option Bytes) → message_of line ≡ o → message_of line ≡ none
      go none q = q
      go (some m) q = let told : None ≡ said (some m) = sym e ∙ d.told ∙ ap said q in cc
