-- What a host reads of the struct and its own message are document 01's fields: the code's bytes stand before their padding, and
-- the payload is as long as the rest of the message from its place on. And the promise leaves nothing open.
use Prim.Native.Nat.{ℕ, ◌+◌}
use mathlib.Core.Path.{◌≡◌, refl, sym, ap, ◌∙◌}
use mathlib.Core.Bool.{Bool, true, false}
use borrow.Author.Tests.{ltb-true, ltb-false}
use lib.Dec.{ltb}
use lib.ListN.{length, take, drop}
use lib.Seq.{take-length}
use Rattle.rules.specs.Words.{Bytes}
use Rattle.rules.specs.Messages.{payload_at, data_of, payload_of}
use Rattle.rules.specs.Answers.{code_number, code_bytes, Answer, refused, done, called, registered, looked, fields, Outcome}
use Rattle.rules.specs.Source.{OwnPayload}
use Rattle.rules.proofs.Source.{one_byte, two_bytes, payload-from}
use Rattle.demands.specs.Kernels.{AnyCall, message_in, defined_on}
use Rattle.demands.proofs.OwnMessage.{own-message}
use Rattle.replies.specs.declared.Reply.{Reply}
use Rattle.replies.specs.Exports.{padded, place_of, exported, Exports, read_back}

-- two structs and two tables that both keep one promise are equal
pub exports-one : {o : Outcome} {r r' : Reply} {t t' : Bytes} → Exports o r t → Exports o r' t' → (r ≡ r') × (t ≡ t')
exports-one e f = (e.reply ∙ sym f.reply, e.table ∙ sym f.table)

code_read : (c : ℕ) → take (length (code_bytes c)) (padded (code_bytes c)) ≡ code_bytes c
unfolding padded
code_read c = go (ltb c 256) refl
  where
    go : (b : Bool) → ltb c 256 ≡ b → take (length (code_bytes c)) (padded (code_bytes c)) ≡ code_bytes c
    go true t = rw (one_byte c (ltb-true c 256 t))
    go false t = rw (two_bytes c (ltb-false c 256 t))

payload-read : (m p : Bytes) → p ≡ payload_of (data_of m) → take (length p) (drop (1 + payload_at) m) ≡ p
payload-read m p own = ap (take (length p)) (sym (own ∙ payload-from m)) ∙ take-length p

-- a struct has the fields of its answer
pub struct_fields : (m : Bytes) (a : Answer) → OwnPayload m a → read_back m (exported a) ≡ fields a
unfolding read_back exported fields place_of padded
struct_fields m (refused c) own = rw (code_read (code_number c))
struct_fields m done own = refl
struct_fields m (called a p) own = rw (payload-read m p own)
struct_fields m (registered n) own = refl
struct_fields m (looked v) own = refl

pub read_back_lem : (m : Bytes) {o : Outcome} → OwnPayload m o.answer → {r : Reply} {after : Bytes} → Exports o r after
    → read_back m r ≡ fields o.answer
read_back_lem m {o} own e = ap (read_back m) e.reply ∙ struct_fields m o.answer own

-- of each call, with the message that it is given
pub call-read : (t : Bytes) (c : AnyCall) {r : Reply} {after : Bytes} → Exports (defined_on t c) r after
    → read_back (message_in c) r ≡ fields (defined_on t c).answer
call-read t c e = read_back_lem (message_in c) (own-message t c) e
