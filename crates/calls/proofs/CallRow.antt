-- Call's row: each return of the code is a place in it.
use Rattle.std.proofs.Common.{◌≡◌, ap, ◌∙◌, Bool, true, false, not, Ok}
use Rattle.rules.specs.Words.{Bytes, word_bytes, key_bytes, address_bytes, num, bytes_of}
use Rattle.rules.specs.Table.{store}
use Rattle.rules.specs.Capabilities.{call, number}
use Rattle.rules.specs.Procedures.{address_of, listed}
use Rattle.rules.specs.Messages.{key_word}
use Rattle.rules.specs.Answers.{x33, x6633, code_number, ◌then◌, outcome}
use Rattle.rules.specs.Calls.{call_row, call_effect}
use Rattle.rules.specs.Source.{refused_reply, reply_of, Reply}
use Rattle.rules.specs.declared.Success.TheVariants.{Called}
use Rattle.words.specs.Words.{Holds}
use Rattle.results.specs.Results.{Gives}
use Rattle.acting.specs.Acting.{Permits}
use Rattle.acting.proofs.Permission.{listed-judged, not-permitted, permitted}
use Rattle.results.proofs.Rows.{refusal, answers, refuses, passes, ends}

module _ (t d : Bytes) {x : Bytes} (named : Holds word_bytes x (key_word d)) {p : Bool}
    (e : Permits t d (number call) (num x) p) where
  abbrev row : Reply → Bytes → Type 0
  row r t' = Gives (outcome t (call_row (store t) d then call_effect (store t) d)) r t'

  pub call-not-covered : p ≡ false → row (refused_reply (code_number x33)) t
  unfolding call_row
  call-not-covered q = rw (not-permitted t d call (key_word d) named e q) (refusal t x33)

  module _ (q : p ≡ true) {key : Bytes} (k : Holds key_bytes key (key_word d))
      {l : Bool} (g : l ≡ listed (store t) (num key)) where
    pub call-not-listed : l ≡ false → row (refused_reply (code_number x6633)) t
    unfolding call_row
    call-not-listed z = rw (permitted t d call (key_word d) named e q, refuses (ap not (listed-judged t k g z))) (refusal t x6633)

    pub call-done : l ≡ true → (w : Bytes) {a : Bytes} → num w ≡ address_of (store t) (num key)
        → a ≡ bytes_of address_bytes (num w) → row (Ok (Called a)) t
    unfolding call_row reply_of
    call-done z w h b =
        let address = b ∙ ap (bytes_of address_bytes) (h ∙ ap (address_of (store t)) k.number) in
        rw (permitted t d call (key_word d) named e q, passes (ap not (listed-judged t k g z)), ends, address) (answers t _)
