-- A row of checks in a proof: a check is named by its content, never by its place.
-- `judge-cases` splits a row's result: a check of the row fails and its code is answered, or the row passes and its result is.
-- In a passed row `ps (listed s p ⇒ e1) (search member depth 12)` shows `listed s p ≡ false`,
-- and `passed-not (ps (not (sound_table t) ⇒ ef) (search member depth 12))` shows `sound_table t ≡ true`.
use mathlib.Core.Path.{◌≡◌, refl, sym, ap}
use mathlib.Core.List.{List, [], ◌∷◌, ◌++◌}
use mathlib.Core.Bool.{Bool, true, false, not}
use Rattle.rules.specs.Answers.{Check, Result, refuse, judge}

-- x is one of a list, as a check of a row
pub data In {A : Type 0} (x : A) : List A → Type 0 where
  here : {xs : List A} → In x (x ∷ xs)
  there : {y : A} {xs : List A} → In x xs → In x (y ∷ xs)

pub ruleset member = (here, there)

-- no check of the row fails
abbrev pub Passes : List Check → Type 0
Passes cs = (c : Check) → In c cs → c.fails ≡ false

-- what a passed check says of a condition that it negates
pub passed-not : {b : Bool} → not b ≡ false → b ≡ true
passed-not {b = true} e = refl
passed-not {b = false} e = sym e

passes_none : Passes []
passes_none c = elim [ ]

passes-more : {c : Check} {cs : List Check} → c.fails ≡ false → Passes cs → Passes (c ∷ cs)
passes-more e ps d here = e
passes-more e ps d (there i) = ps d i

pub judge-cases : (P : Result → Type 0) (cs : List Check) (r : Result)
    → ((c : Check) → In c cs → c.fails ≡ true → P (refuse c.code)) → (Passes cs → P r) → P (judge cs r)
unfolding judge
judge-cases P [] r refused passed = passed passes_none
judge-cases P (c ∷ cs) r refused passed = go c.fails refl (judge-cases P cs r (λ d i. refused d (there i)))
  where
    go : (b : Bool) → c.fails ≡ b → ((Passes cs → P r) → P (judge cs r)) → P (elim b [ true ↦ refuse c.code | false ↦ judge cs r ])
    go true e rest = refused c here e
    go false e rest = rest (λ ps. passed (passes-more e ps))

-- a row in two parts: the second is judged where the first passes
pub judge-append : (cs ds : List Check) (r : Result) → judge (cs ++ ds) r ≡ judge cs (judge ds r)
unfolding judge
judge-append [] ds r = refl
judge-append (c ∷ cs) ds r = ap (λ (rest : Result). elim c.fails [ true ↦ refuse c.code | false ↦ rest ]) (judge-append cs ds r)
