-- The source's types in the rules' terms: what the rules say of a type's number, the reply that stands for an answer, and what
-- each case of a reply means in document 01. Last, the numbers that the source names.
use Rattle.std.specs.Prelude.{ℕ, ◌≤◌, ◌≡◌, List, [], ◌∷◌, map, Bool, true, false, eqb, Result, Ok, Err, MatchResult}
use Rattle.std.proofs.Math.Option.{none, some}
use Rattle.rules.specs.Words.{key_bytes, address_bytes, word_bytes, Bytes, bytes_of}
use Rattle.rules.specs.Table.{record_size, greatest_table}
use Rattle.rules.specs.KernelStorage.{kernel_mark}
use Rattle.rules.specs.Capabilities.{Kind, kinds, number, kind_of, word_count, greatest_words, greatest_prefix}
use Rattle.rules.specs.Sound.{greatest_count}
use Rattle.rules.specs.Messages.{greatest_message, data_of, payload_at, series_at, minimum, open_ended, payload_of}
use Rattle.rules.specs.Validation.{greatest_code}
use Rattle.rules.specs.Answers.{Refusal, ed, refusals, code_number, code_bytes, Answer, refused, done, called, registered, looked, Fields, no_address, no_value}
use Rattle.rules.specs.Calls.{greatest_list}
use Rattle.rules.specs.declared.Refusal.{Refusal as Code}
use Rattle.rules.specs.declared.Kind.{Kind as Numbered}
use Rattle.rules.specs.declared.UnknownKind.{UnknownKind}
use Rattle.rules.specs.declared.Success.{Success}
use Rattle.rules.specs.declared.Success.TheVariants.{Done, Called, Registered, Looked}
use Rattle.rules.specs.declared.Numbers.{Numbers}

-- whether a number is a type; then what the rules say of the kind that it names, false or 0 if it names none
unfoldable pub is_type : ℕ → Bool
is_type n = elim (kind_of n) [ none ↦ false | some kind ↦ true ]

unfoldable pub words_of : ℕ → ℕ
words_of n = elim (kind_of n) [ none ↦ 0 | some kind ↦ word_count kind ]

unfoldable pub minimum_of : ℕ → ℕ
minimum_of n = elim (kind_of n) [ none ↦ 0 | some kind ↦ minimum kind ]

unfoldable pub open_ended_of : ℕ → Bool
open_ended_of n = elim (kind_of n) [ none ↦ false | some kind ↦ open_ended kind ]

-- the result is the type with a number, or an error with a number that names none
abbrev pub NamesType : ℕ → Result Numbered UnknownKind → Type 0
NamesType n r = MatchResult r (λ kind. (kind.0 ≡ n) × (is_type n ≡ true)) (λ e. (e.0 ≡ n) × (is_type n ≡ false))

-- what P says of the kind that has the type n; nothing if none has
abbrev pub OfType : (n : ℕ) → (P : Kind → Type 0) → Type 0
OfType n P = (kind : Kind) → number kind ≡ n → P kind

-- the type with number n has r words
pub record HasWords (n r : ℕ) : Type 0 where
  pub count : r ≡ words_of n
  pub bounded : r ≤ greatest_words

-- what a call answers in the source: a success, or a refusal by its code
abbrev pub Reply : Type 0
Reply = Result Success Code

-- the reply that stands for an answer
abbrev pub refused_reply : (code : ℕ) → Reply
refused_reply code = Err (record { 0 = code })

unfoldable pub reply_of : Answer → Reply
reply_of (refused c) = refused_reply (code_number c)
reply_of done = Ok Done
reply_of (called address payload) = Ok (Called address)
reply_of (registered tests) = Ok (Registered tests)
reply_of (looked value) = Ok (Looked value)

-- the refusal that has a number as its code; no promised reply has a number that is no code
unfoldable pub refusal_among : List Refusal → ℕ → Refusal
refusal_among [] n = ed
refusal_among (c ∷ cs) n = elim (eqb n (code_number c)) [ true ↦ c | false ↦ refusal_among cs n ]

-- what the reply to a message leaves to the message: a Call's payload is the caller's own
abbrev pub OwnPayload : (message : Bytes) → Answer → Type 0
OwnPayload m (refused c) = Unit {0}
OwnPayload m done = Unit {0}
OwnPayload m (called address payload) = payload ≡ payload_of (data_of m)
OwnPayload m (registered tests) = Unit {0}
OwnPayload m (looked value) = Unit {0}

-- document 01's flag, code bytes and values for each case of a reply, beside the message it answers: "Result fields that an answer
-- does not name are zero or empty."
unfoldable pub fields_of : Reply → (message : Bytes) → Fields
fields_of (Err c) m =
    record { flag = 0; code = code_bytes c.0; tests = 0; address = no_address; payload = []; value = no_value }
fields_of (Ok Done) m = record { flag = 1; code = []; tests = 0; address = no_address; payload = []; value = no_value }
fields_of (Ok (Called a)) m =
    record { flag = 1; code = []; tests = 0; address = a; payload = payload_of (data_of m); value = no_value }
fields_of (Ok (Registered n)) m = record { flag = 1; code = []; tests = n; address = no_address; payload = []; value = no_value }
fields_of (Ok (Looked v)) m = record { flag = 1; code = []; tests = 0; address = no_address; payload = []; value = v }

-- the numbers that the source names too, each by the name it has in these files
unfoldable pub rule_numbers : Numbers
rule_numbers =
    record {
      sizes =
          key_bytes
          ∷ address_bytes
          ∷ word_bytes
          ∷ record_size
          ∷ greatest_table
          ∷ greatest_words
          ∷ greatest_prefix
          ∷ greatest_count
          ∷ greatest_message
          ∷ payload_at
          ∷ series_at
          ∷ greatest_code
          ∷ greatest_list
          ∷ [];
      mark = bytes_of 4 kernel_mark;
      types = map (λ kind. record { 0 = number kind }) kinds;
      codes = map (λ refusal. record { 0 = code_number refusal }) refusals;
    }
