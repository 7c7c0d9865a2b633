-- Tests joined by "and" and "or", read by content: a proof names the test it wants and never its place in the row.
-- `search tests-true` takes a test that answered true apart until it meets the sentence of the goal, and
-- `search true-tests` puts a test together from the sentences in hand.
use mathlib.Core.Path.{◌≡◌, refl, sym}
use mathlib.Core.Bool.{Bool, true, false, true≢false, ◌&&◌, ◌||◌}
use borrow.Author.Tests.{leb-true, ltb-true, eqb-true, le-leb, lt-ltb, eq-eqb}

pub decide-false : (b : Bool) → (b ≡ true → ⊥) → b ≡ false
decide-false true h = absurd (h refl)
decide-false false h = refl

-- "and", that answers true
pub and_left : (a b : Bool) → (a && b) ≡ true → a ≡ true
and_left true b q = refl
and_left false b q = q

pub and_right : (a b : Bool) → (a && b) ≡ true → b ≡ true
and_right true b q = q
and_right false b q = absurd (true≢false (sym q))

pub and_both : (a b : Bool) → a ≡ true → b ≡ true → (a && b) ≡ true
and_both a b p q = rw p q

-- "or", that answered false
pub or_left : (a b : Bool) → (a || b) ≡ false → a ≡ false
or_left true b q = q
or_left false b q = refl

pub or_right : (a b : Bool) → (a || b) ≡ false → b ≡ false
or_right true b q = absurd (true≢false q)
or_right false b q = q

-- "or", that answers true
pub or-first : (a b : Bool) → a ≡ true → (a || b) ≡ true
or-first a b q = rw q refl

pub or-second : (a b : Bool) → b ≡ true → (a || b) ≡ true
or-second true b q = refl
or-second false b q = q

-- what follows from each of two tests follows from their "or"
infixl 30 ◌or◌
pub ◌or◌ : {P : Type 0} {a b : Bool} → (a ≡ true → P) → (b ≡ true → P) → (a || b) ≡ true → P
◌or◌ {a = true} f g q = f refl
◌or◌ {a = false} f g q = g q

-- a test that stops at its first answer
pub if-and : (a b : Bool) → (elim a [ true ↦ b | false ↦ false ]) ≡ (a && b)
if-and true b = refl
if-and false b = refl

pub if-or : (a b : Bool) → (elim a [ true ↦ true | false ↦ b ]) ≡ (a || b)
if-or true b = refl
if-or false b = refl

-- the two rulesets of the first lines
pub ruleset tests-true = (and_left, and_right, leb-true, ltb-true, eqb-true)

pub ruleset true-tests = (and_both, or-first, or-second, le-leb, lt-ltb, eq-eqb)
