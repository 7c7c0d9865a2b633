-- A row of checks, as code follows it: each check that fails ends the call, and each that passes leaves the rest of the row.
-- A return deep in a row is then read from left to right: `rw (passes .., passes .., refuses ..)`, and what the call came to.
use Rattle.std.proofs.Common.{◌≡◌, refl, sym, ap, ◌∙◌, List, ◌∷◌, [], Bool, true, false, true≢false, not, ◌&&◌, length}
use Rattle.rules.specs.Words.{Bytes}
use Rattle.rules.specs.Table.{Store, bytes}
use Rattle.rules.specs.Answers.{Refusal, code_number, Answer, Result, refuse, answer, change, Check, ◌⇒◌, judge, Outcome, outcome}
use Rattle.rules.specs.Source.{refused_reply, reply_of, Reply}
use Rattle.storing.specs.Storing.{Became}
use Rattle.storing.specs.declared.table.Table.{Table}
use Rattle.storing.proofs.Chain.{written}
use Rattle.results.specs.Results.{Gives, Leaves}

-- two replies and two tables that both keep one promise are equal
pub gives_one : {o : Outcome} {r r' : Reply} {t t' : Bytes} → Gives o r t → Gives o r' t' → (r ≡ r') × (t ≡ t')
gives_one g h = (g.reply ∙ sym h.reply, g.table ∙ sym h.table)

-- what a call came to
module _ (t : Bytes) where
  pub refusal : (c : Refusal) → Gives (outcome t (refuse c)) (refused_reply (code_number c)) t
  unfolding outcome reply_of
  refusal c = record { reply = refl; table = refl }

  pub answers : (a : Answer) → Gives (outcome t (answer a)) (reply_of a) t
  unfolding outcome
  answers a = record { reply = refl; table = refl }

  pub changes : {t' : Bytes} (a : Answer) (s : Store) → t' ≡ bytes (length t) s → Gives (outcome t (change a s)) (reply_of a) t'
  unfolding outcome
  changes a s q = record { reply = refl; table = q }

-- the same of a table that is written: it is left as it was, or it has become another
pub leaves : {o : Outcome} {r : Reply} (table : Table) → Gives o r table.bytes.now → Leaves o r table table
leaves table g = record { lent = refl; gives = g }

pub becomes : {before after : Table} {s : Store} (a : Answer) → Became before after s
    → Leaves (outcome before.bytes.now (change a s)) (reply_of a) before after
becomes {before} {s = s} a h = record { lent = h.lent; gives = changes before.bytes.now a s (written h) }

-- the first check of a row
module _ {b : Bool} where
  pub refuses : b ≡ true → (c : Refusal) (cs : List Check) (result : Result) → judge (b ⇒ c ∷ cs) result ≡ refuse c
  unfolding judge
  refuses h c cs result = rw (h, judge)

  pub passes : b ≡ false → (c : Refusal) (cs : List Check) (result : Result) → judge (b ⇒ c ∷ cs) result ≡ judge cs result
  unfolding judge
  passes h c cs result = rw (h, judge)

-- what code finds out of a condition by its opposite
pub negated : {b x : Bool} → not b ≡ x → b ≡ not x
negated {b} q = sym (not-not b) ∙ ap not q
  where
    not-not : (b : Bool) → not (not b) ≡ b
    not-not true = refl
    not-not false = refl

pub denied : {a b : Bool} → a ≡ not b → {x : Bool} → a ≡ x → b ≡ not x
denied e q = negated (sym e ∙ q)

-- a row whose checks all passed
pub ends : (result : Result) → judge [] result ≡ result
unfolding judge
ends result = refl

-- two checks with one code, judged together
module _ {p : Bool} (a b : Bool) (e : p ≡ (not a && not b)) where
  pub either-refuses : p ≡ false → (c : Refusal) (cs : List Check) (result : Result) → judge (a ⇒ c ∷ b ⇒ c ∷ cs) result ≡ refuse c
  unfolding judge
  either-refuses h c cs result = go a b (sym e ∙ h)
    where
      go : (a b : Bool) → (not a && not b) ≡ false → judge (a ⇒ c ∷ b ⇒ c ∷ cs) result ≡ refuse c
      go true b z = refl
      go false true z = refl
      go false false z = absurd (true≢false z)

  pub both-pass : p ≡ true → (c : Refusal) (cs : List Check) (result : Result) → judge (a ⇒ c ∷ b ⇒ c ∷ cs) result ≡ judge cs result
  unfolding judge
  both-pass h c cs result = go a b (sym e ∙ h)
    where
      go : (a b : Bool) → (not a && not b) ≡ true → judge (a ⇒ c ∷ b ⇒ c ∷ cs) result ≡ judge cs result
      go true b z = absurd (true≢false (sym z))
      go false true z = absurd (true≢false (sym z))
      go false false z = refl
