-- Laws of the source's types. A type's number is below 8, so the list of a function's eight first values, which antt computes,
-- says what the function is at each; and a reply has the fields of the answer that it stands for.
use mathlib.Core.Path.{◌≡◌, refl, sym, ap, ◌∙◌}
use mathlib.Core.Logic.{◌≢◌}
use mathlib.Core.List.{List, [], ◌∷◌}
use mathlib.Core.Bool.{Bool, true, false, ◌&&◌, ◌||◌}
use mathlib.Core.Option.{Option, none, some}
use Prim.Native.Nat.{ℕ, zero, suc, ◌+◌, ◌/◌, ◌%◌, ◌≤◌, ◌<◌}
use native.Mathlib.Nat.{div-add-mod'}
use native.Mathlib.Omega.{arith}
use lib.Dec.{eqb, ltb, leb}
use lib.ListN.{drop, get_or}
use lib.Seq.{drop-drop}
use borrow.Author.Tests.{ltb-true, ltb-false, lt-ltb, le-ltb, ne_eqb, le-leb, lt-leb}
use Rattle.rules.specs.Words.{Bytes, num, num_after}
use Rattle.rules.specs.Capabilities.{Kind, call, register, delete, set_entry, write, kinds, number, kind_among, kind_of, word_count, greatest_words}
use Rattle.rules.specs.Messages.{payload_at, open_ended, data_of, payload_of}
use Rattle.rules.specs.Answers.{Refusal, ed, ef, e0, ea, aa, eb, e6, e4, x33, e9, e5, x77, e1, e2, e3, x6633, e8, e7, refusals, code_number, code_bytes, Answer, refused, done, called, registered, looked, fields}
use Rattle.rules.specs.Source.{refusal_among, is_type, words_of, open_ended_of, HasWords, Reply, refused_reply, reply_of, OwnPayload, fields_of}
use Rattle.std.specs.Prelude.{Ok, Err}
use Rattle.rules.specs.declared.Success.TheVariants.{Done, Called, Registered, Looked}

-- the values of a function at 0 to n - 1
abbrev pub values : {A : Type 0} → (ℕ → A) → ℕ → List A
values f zero = []
values f (suc n) = f 0 ∷ values (λ k. f (suc k)) n

-- a function that has a default from n on is read in the list of its first n values, and the default behind them
pub value-or : {A : Type 0} (f : ℕ → A) (default : A) (n k : ℕ) → (n ≤ k → f k ≡ default) → get_or (values f n) k default ≡ f k
value-or f d zero k h = sym (h (omega arith))
value-or f d (suc n) zero h = refl
value-or f d (suc n) (suc k) h = value-or (λ i. f (suc i)) d n k (λ b. h (omega (arith, b)))

pub value-at : {A : Type 0} (f : ℕ → A) (default : A) (n k : ℕ) → k < n → get_or (values f n) k default ≡ f k
value-at f d n k h = value-or f d n k (λ b. absurd (omega (arith, b, h)))

number-below : (kind : Kind) → number kind < 8
unfolding number
number-below call = omega arith
number-below register = omega arith
number-below delete = omega arith
number-below set_entry = omega arith
number-below write = omega arith

none-among : (ks : List Kind) (n : ℕ) → 8 ≤ n → kind_among ks n ≡ none
unfolding kind_among
none-among [] n h = refl
none-among (kind ∷ more) n h =
    rw (ne_eqb (number kind) n (λ e. omega (arith, number-below kind)), kind_among) (none-among more n h)

-- no number from 8 on names a type
pub names-none : (n : ℕ) → 8 ≤ n → kind_of n ≡ none
unfolding kind_of
names-none n h = none-among kinds n h

-- two tests of a number agree if they have the same values below 8 and agree from there on
same_test : (f g : ℕ → Bool) → values f 8 ≡ values g 8 → ((n : ℕ) → 8 ≤ n → f n ≡ g n) → (n : ℕ) → f n ≡ g n
same_test f g below from8 n = go (ltb n 8) refl
  where
    go : (b : Bool) → ltb n 8 ≡ b → f n ≡ g n
    go true e =
        let h : n < 8 = ltb-true n 8 e in
        sym (value-at f false 8 n h) ∙ ap (λ vs. get_or vs n false) below ∙ value-at g false 8 n h
    go false e = from8 n (ltb-false n 8 e)

-- the numbers that name a type are 3 to 7
pub is-type : (n : ℕ) → is_type n ≡ leb 3 n && leb n 7
unfolding is_type kind_of kind_among number
is-type = same_test is_type (λ k. leb 3 k && leb k 7) refl from8
  where
    from8 : (n : ℕ) → 8 ≤ n → is_type n ≡ leb 3 n && leb n 7
    from8 n h = rw (names-none n h, is_type) (simp (le-leb 3 n (omega arith), lt-leb n 7 (omega arith)))

-- the types that are open-ended are 3 and 4
pub is-open-ended : (n : ℕ) → open_ended_of n ≡ eqb n 3 || eqb n 4
unfolding open_ended_of open_ended kind_of kind_among number
is-open-ended = same_test open_ended_of (λ k. eqb k 3 || eqb k 4) refl from8
  where
    from8 : (n : ℕ) → 8 ≤ n → open_ended_of n ≡ eqb n 3 || eqb n 4
    from8 n h = rw (names-none n h, open_ended_of) (simp (ne_eqb n 3 (λ q. omega arith), ne_eqb n 4 (λ q. omega arith)))

-- no capability has more words than the most
pub words-bounded : (n : ℕ) → words_of n ≤ greatest_words
unfolding words_of word_count
words-bounded n = go (kind_of n)
  where
    go : (o : Option Kind) → elim o as (λ _. ℕ) [ none ↦ 0 | some kind ↦ word_count kind ] ≤ 2
    go none = omega arith
    go (some call) = omega arith
    go (some register) = omega arith
    go (some delete) = omega arith
    go (some set_entry) = omega arith
    go (some write) = omega arith

-- the words of a type by its number
pub has_words : {n : ℕ} (k : ℕ) → n ≡ k → HasWords n (words_of k)
has_words k e = record { count = ap words_of (sym e); bounded = words-bounded k }

-- a number that names none of the five types has no words
pub has-none : (n : ℕ) → n ≢ 3 → n ≢ 4 → n ≢ 5 → n ≢ 6 → n ≢ 7 → HasWords n 0
unfolding words_of kind_of kind_among number
has-none n a b c d e = record { count = sym (rw (none_of, words_of)); bounded = omega arith }
  where
    passed : (kind : Kind) (more : List Kind) → n ≢ number kind → kind_among (kind ∷ more) n ≡ kind_among more n
    passed kind more other = rw (ne_eqb (number kind) n (λ q. other (sym q)), kind_among)

    none_of : kind_of n ≡ none
    none_of =
        passed call (register ∷ delete ∷ set_entry ∷ write ∷ []) a
        ∙ passed register (delete ∷ set_entry ∷ write ∷ []) b
        ∙ passed delete (set_entry ∷ write ∷ []) c
        ∙ passed set_entry (write ∷ []) d
        ∙ passed write [] e

-- the payload is the message from byte 65 on
pub payload-from : (m : Bytes) → payload_of (data_of m) ≡ drop (1 + payload_at) m
unfolding payload_of data_of
payload-from m = drop-drop payload_at 1 m

-- a reply has the fields of the answer that it stands for
pub reply-fields : (m : Bytes) (a : Answer) → OwnPayload m a → fields_of (reply_of a) m ≡ fields a
unfolding fields_of reply_of fields
reply-fields m (refused c) h = refl
reply-fields m done h = refl
reply-fields m (called a p) h = rw h
reply-fields m (registered n) h = refl
reply-fields m (looked v) h = refl

-- two replies that both stand for an answer are equal
pub one-reply : {r r' : Reply} (a : Answer) → r ≡ reply_of a → r' ≡ reply_of a → r ≡ r'
one-reply a e e' = e ∙ sym e'

-- a code below 256 has one byte, any other has two
pub one_byte : (c : ℕ) → c < 256 → code_bytes c ≡ c ∷ []
unfolding code_bytes
one_byte c h = rw (lt-ltb c 256 h, code_bytes)

pub two_bytes : (c : ℕ) → 256 ≤ c → code_bytes c ≡ c / 256 ∷ c % 256 ∷ []
unfolding code_bytes
two_bytes c h = rw (le-ltb c 256 h, code_bytes)

-- the code's bytes, read as one number, are the code
pub code-bytes-back : (c : ℕ) → num (code_bytes c) ≡ c
unfolding num num_after
code-bytes-back c = go (ltb c 256) refl
  where
    go : (b : Bool) → ltb c 256 ≡ b → num (code_bytes c) ≡ c
    go true t = rw (one_byte c (ltb-true c 256 t)) (omega arith)
    go false t = rw (two_bytes c (ltb-false c 256 t)) (omega (arith, div-add-mod' c 256))

-- so they tell codes apart
pub code-bytes-apart : (c c' : ℕ) → code_bytes c ≡ code_bytes c' → c ≡ c'
code-bytes-apart c c' e = sym (code-bytes-back c) ∙ ap num e ∙ code-bytes-back c'

-- a reply with the fields of a refusal is that refusal
pub refusal-apart : (r : Reply) (m : Bytes) (c : ℕ) → fields_of r m ≡ fields_of (refused_reply c) m → r ≡ refused_reply c
unfolding fields_of
refusal-apart (Err k) m c e = ap (λ n. Err (record { 0 = n })) (code-bytes-apart k.0 c (ap (λ f. f.code) e))
refusal-apart (Ok Done) m c e = absurd (omega (arith, ap (λ f. f.flag) e))
refusal-apart (Ok (Called a)) m c e = absurd (omega (arith, ap (λ f. f.flag) e))
refusal-apart (Ok (Registered n)) m c e = absurd (omega (arith, ap (λ f. f.flag) e))
refusal-apart (Ok (Looked v)) m c e = absurd (omega (arith, ap (λ f. f.flag) e))

-- a code is found by its number
pub refusal-back : (c : Refusal) → refusal_among refusals (code_number c) ≡ c
unfolding refusal_among code_number
refusal-back ed = refl
refusal-back ef = refl
refusal-back e0 = refl
refusal-back ea = refl
refusal-back aa = refl
refusal-back eb = refl
refusal-back e6 = refl
refusal-back e4 = refl
refusal-back x33 = refl
refusal-back e9 = refl
refusal-back e5 = refl
refusal-back x77 = refl
refusal-back e1 = refl
refusal-back e2 = refl
refusal-back e3 = refl
refusal-back x6633 = refl
refusal-back e8 = refl
refusal-back e7 = refl
