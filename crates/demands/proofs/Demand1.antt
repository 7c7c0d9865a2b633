-- Demand 1 follows from demand 2: the defined kernel ends every call with a listed answer, since every refusal of a row comes from
-- a check of the row. On a sound table the check for 66 ef never fails, so that code is not given: that is a sentence of demand 3.
use Prim.Native.Nat.{ℕ}
use mathlib.Core.Path.{◌≡◌, refl, sym, ap, ◌∙◌, subst}
use mathlib.Core.Logic.{◌≢◌, inl, inr}
use mathlib.Core.List.{List, [], ◌∷◌, ◌++◌}
use mathlib.Core.Bool.{true, false, true≢false, not}
use lib.Dec.{eqb}
use lib.ListN.{length, drop}
use borrow.Author.Tests.{eq-eqb}
use Rattle.rules.specs.Words.{Bytes, OneOf}
use Rattle.rules.specs.Table.{Store, room, store, length_fits}
use Rattle.rules.specs.Capabilities.{Kind, call, register, delete, set_entry, write}
use Rattle.rules.specs.Sound.{any_of, sound_table}
use Rattle.rules.specs.Messages.{type_of, data_of, Named, null, unknown, of_kind, named, open_ended, overlong, leading_bytes}
use Rattle.rules.specs.Answers.{Refusal, ed, ef, e0, ea, code_number, Answer, refused, fields, succeeds, Result, refuse, answer, change, Check, ◌⇒◌, judge, outcome}
use Rattle.rules.specs.Calls.{set_up_row, set_up, turn_row, turn, look_row, look, call_row, set_entry_row, delete_row, write_row, register_row, own_row, do_kind, format_row, named_row, do_named, system_row, system_call}
use Rattle.demands.specs.Kernels.{State, AnyCall, setting_up, turning, looking, calling, Kernel, defined_on, on_table, defined}
use Rattle.demands.specs.Demands.{codes_of_kind, codes_of_named, codes_of, Reports, of_null, of_call, of_register, of_delete, of_set_entry, of_write, MayReport, of_set_up, of_turn, of_look, of_message, ListedAnswer, success, refusal, Demand1, Demand2}
use Rattle.laws.proofs.Lists.{true-any}
use Rattle.laws.proofs.Numbers.{non_zero}
use Rattle.laws.proofs.Rows.{In, here, there, member, Passes, judge-cases, judge-append}

-- a result that succeeds with a report of R, or is refused with a code of the list
data Among (l : List Refusal) (R : Answer → Type 0) : Result → Type 0 where
  refuses : {c : Refusal} → OneOf c l → Among l R (refuse c)
  answers : {a : Answer} → R a → Among l R (answer a)
  changes : {a : Answer} {s : Store} → R a → Among l R (change a s)

-- each check of a row has a code of the list, or never fails
data CodesAmong (l : List Refusal) : List Check → Type 0 where
  none : CodesAmong l []
  has : {c : Check} {cs : List Check} → OneOf c.code l → CodesAmong l cs → CodesAmong l (c ∷ cs)
  never : {c : Check} {cs : List Check} → c.fails ≡ false → CodesAmong l cs → CodesAmong l (c ∷ cs)

ruleset codes = (none, has, never, inl, inr)

code-among : {l : List Refusal} {c : Check} {cs : List Check} → In c cs → c.fails ≡ true → CodesAmong l cs → OneOf c.code l
code-among here e (has h hs) = h
code-among here e (never f hs) = absurd (true≢false (sym e ∙ f))
code-among (there i) e (has h hs) = code-among i e hs
code-among (there i) e (never f hs) = code-among i e hs

passed-among : {l : List Refusal} {R : Answer → Type 0} {cs : List Check} {r : Result} → CodesAmong l cs → (Passes cs → Among l R r)
    → Among l R (judge cs r)
passed-among {l} {R} hs a = judge-cases (Among l R) _ _ (λ c i e. refuses (code-among i e hs)) a

row-among : {l : List Refusal} {R : Answer → Type 0} {cs : List Check} {r : Result} → CodesAmong l cs → Among l R r → Among l R (judge cs r)
row-among hs a = passed-among hs (λ ps. a)

-- a code of the list is one of a longer list, and a report of R one of Q
among-after : {l : List Refusal} {R : Answer → Type 0} {r : Result} (before : List Refusal) → Among l R r → Among (before ++ l) R r
among-after [] a = a
among-after (x ∷ before) a = more (among-after before a)
  where
    more : {l : List Refusal} {R : Answer → Type 0} {r : Result} → Among l R r → Among (x ∷ l) R r
    more (refuses h) = refuses (inr h)
    more (answers h) = answers h
    more (changes h) = changes h

among-reports : {l : List Refusal} {R Q : Answer → Type 0} {r : Result} → ((a : Answer) → R a → Q a) → Among l R r → Among l Q r
among-reports f (refuses h) = refuses h
among-reports f (answers h) = answers (f _ h)
among-reports f (changes h) = changes (f _ h)

-- The rows, from a type's own to the four calls. The search nests one rule for each check of the row, and then one for each code
-- of the list up to the check's: the longest row, Register's, has 11 checks to place among 9 codes, so a depth of 30 is enough for all.
-- In that row more rules are tried than the 1,000 that a search may try unless it says `fits`.
module _ (rooms : ℕ) (s : Store) (d code mask : Bytes) where
  kind-among : (kind : Kind) → Among (codes_of_kind kind) (Reports (of_kind kind)) (do_kind rooms s d code mask kind)
  unfolding own_row call_row register_row delete_row set_entry_row write_row
  kind-among call = row-among (search codes depth 30) (answers (of_call _ _))
  kind-among register = row-among (search codes depth 30 fits 2000) (changes (of_register _))
  kind-among delete = row-among (search codes depth 30) (changes of_delete)
  kind-among set_entry = row-among (search codes depth 30) (changes of_set_entry)
  kind-among write = row-among (search codes depth 30) (changes of_write)

  -- the row before a type's own; Call and Register are open-ended, so their check for 66 eb never fails, and a Write has no key word,
  -- so its check for 66 e6 never does
  before-own : (kind : Kind) → CodesAmong (codes_of_named (of_kind kind)) (format_row d kind)
  unfolding format_row open_ended overlong leading_bytes
  before-own call = search codes depth 12
  before-own register = search codes depth 12
  before-own delete = search codes depth 12
  before-own set_entry = search codes depth 12
  before-own write = search codes depth 12

  -- an unknown type's one check always fails
  unknown-among : Among (codes_of_named unknown) (Reports unknown) (do_named rooms s d code mask unknown)
  unfolding named_row judge
  unknown-among = refuses (inl refl)

  named-among : (n : Named) → Among (codes_of_named n) (Reports n) (do_named rooms s d code mask n)
  unfolding named_row
  named-among null = row-among (search codes) (answers of_null)
  named-among unknown = unknown-among
  named-among (of_kind kind) = rw (judge-append (format_row d kind)) (row-among (before-own kind) (among-after (e0 ∷ []) (kind-among kind)))

message-among : (t m code mask : Bytes) → eqb (length m) 0 ≡ false
    → Among (codes_of_named (named (type_of m))) (MayReport (calling m code mask)) (do_named (room t) (store t) (data_of m) code mask (named (type_of m)))
message-among t m code mask some = among-reports (λ a. of_message (non_zero (length m) some)) (named-among (room t) (store t) (data_of m) code mask (named (type_of m)))

-- such a result gives a listed answer; a refusal leaves the state as lent
listed_answer : {s : State} {c : AnyCall} {r : Result} → Among (codes_of c) (MayReport c) r → ListedAnswer s c (on_table s (outcome s.table r))
unfolding outcome
listed_answer (refuses {c = x} h) = refusal x h refl refl
listed_answer (answers h) = success h
listed_answer (changes h) = success h

pub defined-listed : (s : State) (c : AnyCall) → ListedAnswer s c (defined s c)
unfolding defined_on set_up set_up_row turn turn_row look look_row system_call system_row
defined-listed s (setting_up k a ka) = listed_answer (row-among (search codes depth 30) (changes of_set_up))
defined-listed s (turning k) = listed_answer (row-among (search codes depth 30) (changes of_turn))
defined-listed s (looking k) = listed_answer (row-among (search codes depth 30) (answers (of_look _)))
defined-listed s (calling m code mask) =
    listed_answer (rw (judge-append (system_row s.table m mask)) (passed-among (search codes depth 30) (λ ps.
    among-after (ed ∷ ef ∷ e0 ∷ ea ∷ [])
    (message-among s.table m code mask (ps (eqb (length m) 0 ⇒ e0) (search member depth 12))))))

pub demand-1 : (K : Kernel) → Demand2 K → Demand1 K
demand-1 K same s c bs lent = subst (ListedAnswer s c) (sym (same s c bs lent)) (defined-listed s c)

-- What a call may report is a success.
pub reports-succeed : {c : AnyCall} {a : Answer} → MayReport c a → succeeds a ≡ true
unfolding succeeds fields
reports-succeed of_set_up = refl
reports-succeed of_turn = refl
reports-succeed (of_look value) = refl
reports-succeed (of_message some r) = go r
  where
    go : {n : Named} {a : Answer} → Reports n a → succeeds a ≡ true
    go of_null = refl
    go (of_call address payload) = refl
    go (of_register tests) = refl
    go of_delete = refl
    go of_set_entry = refl
    go of_write = refl

-- a code that a test finds nowhere in a list is not one of it
pub not-among : (code : Refusal) (l : List Refusal) → any_of (λ x. eqb (code_number x) (code_number code)) l ≡ false → OneOf code l → ⊥
not-among code l apart i =
    true≢false (sym (true-any (λ x. eqb (code_number x) (code_number code)) l code i (eq-eqb (code_number code) (code_number code) refl)) ∙ apart)

-- On a sound table the check for 66 ef never fails, so a refusal has another of the call's codes; every list begins with ed and ef.
abbrev other_codes : AnyCall → List Refusal
other_codes c = ed ∷ drop 2 (codes_of c)

no-success : {a : Answer} → succeeds a ≡ true → a ≡ refused ef → ⊥
unfolding succeeds fields
no-success h q = true≢false (sym h ∙ ap succeeds q)

never-ef : (t : Bytes) (c : AnyCall) {r : Result} → any_of (λ x. eqb (code_number x) (code_number ef)) (other_codes c) ≡ false
    → Among (other_codes c) (MayReport c) r → (outcome t r).answer ≢ refused ef
unfolding outcome
never-ef t c apart (refuses {c = x} h) q =
    let same : x ≡ ef = cc in
    let P : Refusal → Type 0 = λ y. OneOf y (other_codes c) in
    not-among ef (other_codes c) apart (subst P same h)
never-ef t c apart (answers h) q = no-success (reports-succeed h) q
never-ef t c apart (changes h) q = no-success (reports-succeed h) q

named-apart : (n : Named) → any_of (λ x. eqb (code_number x) (code_number ef)) (codes_of_named n) ≡ false
unfolding any_of code_number
named-apart null = refl
named-apart unknown = refl
named-apart (of_kind call) = refl
named-apart (of_kind register) = refl
named-apart (of_kind delete) = refl
named-apart (of_kind set_entry) = refl
named-apart (of_kind write) = refl

pub never-unsound : (t : Bytes) → not (length_fits t) ≡ false → not (sound_table t) ≡ false
    → (c : AnyCall) → (defined_on t c).answer ≢ refused ef
unfolding defined_on set_up set_up_row turn turn_row look look_row system_call system_row any_of code_number
never-unsound t fits sound (setting_up k a ka) =
    never-ef t (setting_up k a ka) refl (row-among (search codes depth 30) (changes of_set_up))
never-unsound t fits sound (turning k) = never-ef t (turning k) refl (row-among (search codes depth 30) (changes of_turn))
never-unsound t fits sound (looking k) = never-ef t (looking k) refl (row-among (search codes depth 30) (answers (of_look _)))
never-unsound t fits sound (calling m code mask) =
    never-ef t (calling m code mask) (named-apart (named (type_of m)))
    (rw (judge-append (system_row t m mask)) (passed-among (search codes depth 30) (λ ps.
    among-after (ed ∷ e0 ∷ ea ∷ []) (message-among t m code mask (ps (eqb (length m) 0 ⇒ e0) (search member depth 12))))))
