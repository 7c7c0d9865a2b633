-- The struct that the code builds of a kernel's reply is the one of the answer that the reply stands for. Only a Call's struct
-- has a payload, and its length is the length of the part that `payload` gives; the other calls lend no message, so theirs is empty.
use Prim.Native.Nat.{ℕ}
use mathlib.Core.Path.{◌≡◌, refl, sym, ap, ◌∙◌}
use mathlib.Core.List.{[]}
use lib.ListN.{length}
use Rattle.rules.specs.Words.{Bytes}
use Rattle.rules.specs.Messages.{data_of, payload_of}
use Rattle.rules.specs.Answers.{Answer, refused, done, called, registered, looked, fields, Outcome}
use Rattle.rules.specs.Source.{OwnPayload, refused_reply, reply_of, fields_of, Reply as KernelReply}
use Rattle.rules.proofs.Source.{reply-fields}
use Rattle.results.specs.Results.{Gives}
use Rattle.payloads.specs.Payloads.{PayloadPromise}
use Rattle.replies.specs.declared.Reply.{Reply}
use Rattle.replies.specs.Exports.{padded, place_of, exported, Exports}
use Rattle.replies.specs.Parts.{struct_of}

reply-struct : (a : Answer) (n : ℕ) → n ≡ length (fields a).payload → struct_of (reply_of a) n ≡ exported a
unfolding struct_of reply_of exported fields place_of padded
reply-struct (refused c) n e = refl
reply-struct done n e = refl
reply-struct (called a p) n e = rw e
reply-struct (registered tests) n e = refl
reply-struct (looked v) n e = refl

module _ {o : Outcome} {k : KernelReply} {after : Bytes} (given : Gives o k after) where
  exports : (n : ℕ) → n ≡ length (fields o.answer).payload → {r : Reply} → r ≡ struct_of k n → Exports o r after
  exports n long e =
      record { reply = e ∙ ap (λ k. struct_of k n) given.reply ∙ reply-struct o.answer n long; table = given.table }

  -- with the length of the payload that belongs to a message
  pub exports-part : (m : Bytes) → OwnPayload m o.answer → (part : Bytes) → PayloadPromise m k part
      → {r : Reply} → r ≡ struct_of k (length part) → Exports o r after
  unfolding fields_of
  exports-part m own part kept e =
      let same : fields_of k m ≡ fields o.answer = ap (λ k. fields_of k m) given.reply ∙ reply-fields m o.answer own in
      exports (length part) (ap length (kept ∙ ap (λ f. f.payload) same)) e

  -- where there is no message
  pub exports-none : OwnPayload [] o.answer → {r : Reply} → r ≡ struct_of k 0 → Exports o r after
  unfolding fields data_of payload_of
  exports-none own e = exports 0 (none o.answer own) e
    where
      none : (a : Answer) → OwnPayload [] a → 0 ≡ length (fields a).payload
      none (refused c) h = refl
      none done h = refl
      none (called a p) h = ap length (sym h)
      none (registered tests) h = refl
      none (looked v) h = refl
