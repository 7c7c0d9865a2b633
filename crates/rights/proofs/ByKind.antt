-- From the type that a number names to the comparison that judges it: Set Entry holds nothing to compare, Write compares ranges,
-- and each other type compares prefixes. A capability is read from the words that bytes begin with.
use Prim.Native.Nat.{ℕ, ◌*◌, ◌%◌, ◌^◌, ◌≤◌, ◌<◌}
use native.Mathlib.Omega.{arith}
use native.Mathlib.Nat.{div-one, mod-eq_of_lt}
use mathlib.Core.Path.{◌≡◌, refl, sym, ap, ap₂, ◌∙◌}
use mathlib.Core.Logic.{◌≢◌}
use mathlib.Core.List.{[], ◌∷◌}
use mathlib.Core.Bool.{Bool, true}
use lib.Dec.{leb}
use lib.ListN.{length, get_or}
use borrow.Author.Tests.{leb-true}
use Rattle.rules.specs.Words.{Bytes, num, words}
use Rattle.rules.specs.Capabilities.{Kind, call, register, delete, set_entry, write, number, word_count, Capability, greatest_prefix, prefix}
use Rattle.rules.specs.Capabilities.{prefix_up_to, prefix_in_range, covers_key, within_prefix, covers_address, within_range, covers, within}
use Rattle.laws.proofs.KindFacts.{number-inj}
use Rattle.laws.proofs.Numerals.{all-bytes}
use Rattle.laws.proofs.Parts.{num-part}
use Rattle.moves.specs.Moves.{WordPart}
use Rattle.prefixes.specs.Prefixes.{KeyPart}
use Rattle.rights.specs.Rights.{capability_in}

-- The types.
is-entry : (k : Kind) {n : ℕ} → number k ≡ n → n ≡ 6 → k ≡ set_entry
unfolding number
is-entry k p q = number-inj k set_entry (p ∙ q)

is-write : (k : Kind) {n : ℕ} → number k ≡ n → n ≡ 7 → k ≡ write
unfolding number
is-write k p q = number-inj k write (p ∙ q)

pub not-write : (k : Kind) {n : ℕ} → number k ≡ n → n ≢ 7 → k ≢ write
unfolding number
not-write k p d e = d (sym p ∙ ap number e)

-- a type whose capabilities are compared by prefix
pub record Prefixed (k : Kind) : Type 0 where
  pub count : word_count k ≡ 1
  pub covering : (c : Capability) (x : ℕ) → covers k c x ≡ covers_key c x
  pub containing : (b a : Capability) → within k b a ≡ within_prefix b a
  pub range : (c : Capability) → prefix_in_range k c ≡ leb (prefix c) greatest_prefix

pub prefixed : (k : Kind) {n : ℕ} → number k ≡ n → n ≢ 6 → n ≢ 7 → Prefixed k
unfolding number word_count covers within prefix_up_to
prefixed call p e w = record { count = refl; covering = λ c x. refl; containing = λ b a. refl; range = λ c. refl }
prefixed register p e w = record { count = refl; covering = λ c x. refl; containing = λ b a. refl; range = λ c. refl }
prefixed delete p e w = record { count = refl; covering = λ c x. refl; containing = λ b a. refl; range = λ c. refl }
prefixed set_entry p e w = absurd (e (sym p))
prefixed write p e w = absurd (w (sym p))

-- How many bytes the words take.
pub has_first : (k : Kind) {n : ℕ} → number k ≡ n → n ≢ 6 → {l : ℕ} → 32 * word_count k ≤ l → 32 ≤ l
unfolding number word_count
has_first call p e h = h
has_first register p e h = h
has_first delete p e h = h
has_first set_entry p e h = absurd (e (sym p))
has_first write p e h = omega arith

pub has-second : (k : Kind) {n : ℕ} → number k ≡ n → n ≡ 7 → {l : ℕ} → 32 * word_count k ≤ l → 64 ≤ l
unfolding word_count
has-second k p q h = rw (is-write k p q) at h

-- The capability in bytes.
one_word : {k : Kind} → Prefixed k → {bs first : Bytes} → WordPart bs 0 first → capability_in k bs ≡ num first ∷ []
unfolding words
one_word t {bs} w = ap (λ (n : ℕ). words n bs) t.count ∙ ap (λ (x : Bytes). num x ∷ []) (sym w.is)

two-words : {bs first second : Bytes} → WordPart bs 0 first → WordPart bs 32 second → capability_in write bs ≡ num first ∷ num second ∷ []
unfolding words word_count
two-words w v = ap₂ (λ (x y : Bytes). num x ∷ num y ∷ []) (sym w.is) (sym v.is)

pub prefix-fits : {k : Kind} → Prefixed k → {bs first : Bytes} → WordPart bs 0 first → prefix_in_range k (capability_in k bs) ≡ true
    → prefix (num first ∷ []) ≤ 192
unfolding greatest_prefix
prefix-fits t {first = first} w r =
    let low : leb (prefix (num first ∷ [])) greatest_prefix ≡ true =
    ap (λ c. leb (prefix c) greatest_prefix) (sym (one_word t w)) ∙ sym (t.range _) ∙ r in
    omega (arith, leb-true (prefix (num first ∷ [])) greatest_prefix low)

-- a type with no prefix, and one with a prefix in its first word
pub no-prefix : (k : Kind) {n : ℕ} → number k ≡ n → n ≢ 3 → n ≢ 4 → n ≢ 5 → (c : Capability) → true ≡ prefix_in_range k c
unfolding number prefix_up_to
no-prefix call p a b d c = absurd (a (sym p))
no-prefix register p a b d c = absurd (b (sym p))
no-prefix delete p a b d c = absurd (d (sym p))
no-prefix set_entry p a b d c = refl
no-prefix write p a b d c = refl

pub first-prefix : {bs first : Bytes} {n : ℕ} → n ≤ 5 → WordPart bs 0 first → {r : Bool} → r ≡ leb (prefix (num first ∷ [])) greatest_prefix
    → (k : Kind) → number k ≡ n → r ≡ prefix_in_range k (capability_in k bs)
first-prefix h w e k p =
    let t = prefixed k p (λ z. omega arith) (λ z. omega arith) in
    e ∙ ap (λ c. leb (prefix c) greatest_prefix) (sym (one_word t w)) ∙ sym (t.range _)

-- the key in a key word
pub key-number : {word part : Bytes} → KeyPart word part → length word ≡ 32 → ((i : ℕ) → get_or word i 0 < 256)
    → num word < 256 ^ 24 → num part ≡ num word
key-number {word} p l values h =
    ap num p.is ∙ num-part word (all-bytes word values) 8 24 0 l ∙ ap (λ (x : ℕ). x % 256 ^ 24) (div-one (num word)) ∙ mod-eq_of_lt h

-- What the comparisons say.
module _ (k : Kind) {n : ℕ} (p : number k ≡ n) where
  pub entry-covers : n ≡ 6 → (c : Capability) (x : ℕ) → true ≡ covers k c x
  unfolding covers
  entry-covers q c x = rw (is-entry k p q)

  pub entry-within : n ≡ 6 → (b a : Capability) → true ≡ within k b a
  unfolding within
  entry-within q b a = rw (is-entry k p q)

  pub range-covers : n ≡ 7 → (x : ℕ) {bs first second : Bytes} {r : Bool} → WordPart bs 0 first → WordPart bs 32 second
      → r ≡ covers_address (num first ∷ num second ∷ []) x → r ≡ covers k (capability_in k bs) x
  unfolding covers
  range-covers q x w v e = rw (is-write k p q, two-words w v) e

  pub range-within : n ≡ 7 → {bs cs b m a n : Bytes} {r : Bool} → WordPart bs 0 b → WordPart bs 32 m → WordPart cs 0 a → WordPart cs 32 n
      → r ≡ within_range (num b ∷ num m ∷ []) (num a ∷ num n ∷ []) → r ≡ within k (capability_in k bs) (capability_in k cs)
  unfolding within
  range-within q wb wm wa wn e = rw (is-write k p q, two-words wb wm, two-words wa wn) e

  pub prefix-covers : n ≢ 6 → n ≢ 7 → {x y : ℕ} {bs first : Bytes} {r : Bool} → WordPart bs 0 first → y ≡ x
      → r ≡ covers_key (num first ∷ []) y → r ≡ covers k (capability_in k bs) x
  prefix-covers d e w q z =
      let t = prefixed k p d e in
      z ∙ ap₂ covers_key (sym (one_word t w)) q ∙ sym (t.covering _ _)

  pub prefix-within : n ≢ 6 → n ≢ 7 → {bs cs b a : Bytes} {r : Bool} → WordPart bs 0 b → WordPart cs 0 a
      → r ≡ within_prefix (num b ∷ []) (num a ∷ []) → r ≡ within k (capability_in k bs) (capability_in k cs)
  prefix-within d e w v z =
      let t = prefixed k p d e in
      z ∙ ap₂ within_prefix (sym (one_word t w)) (sym (one_word t v)) ∙ sym (t.containing _ _)
