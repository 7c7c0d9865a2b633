-- A record behind a procedure's index, test by test: the type that its key's end names, whether it is the type's count, and
-- otherwise the number of the capability, that of the word, and the prefix.
use Prim.Native.Nat.{ℕ, ◌%◌, ◌^◌, ◌≤◌, ◌<◌, min}
use native.Mathlib.Omega.{arith}
use mathlib.Core.Path.{◌≡◌, refl, sym, ap, ◌∙◌}
use mathlib.Core.Logic.{◌≢◌}
use mathlib.Core.List.{[], ◌∷◌}
use mathlib.Core.Bool.{Bool, true, false, true≢false}
use mathlib.Core.Option.{Option, none, some}
use lib.Dec.{eqb, leb}
use lib.ListN.{length}
use lib.Seq.{take_all}
use borrow.Author.Tests.{eq-eqb, ne_eqb, le-leb, lt-leb, le-ltb, lt-ltb}
use Rattle.rules.specs.Words.{Bytes, word_bytes, num, words}
use Rattle.rules.specs.Table.{◌holds◌}
use Rattle.rules.specs.KernelStorage.{end_second, end_third}
use Rattle.rules.specs.Capabilities.{Kind, call, register, delete, set_entry, write, number, kind_of, word_count, prefix_up_to, prefix_in_range}
use Rattle.rules.specs.Source.{is_type, words_of}
use Rattle.laws.proofs.KindFacts.{words-of, kind_of-some}
use Rattle.laws.proofs.Tests.{eqb_same, leb-same}
use Rattle.words.specs.Words.{small_limit}
use Rattle.keys.specs.Keys.{end_first}
use Rattle.rights.specs.Rights.{capability_in}
use Rattle.walks.specs.Walks.{pick, word_row, kind_row, later_row}

-- the last two bytes of a key
module _ (k : ℕ) {b : ℕ} (e : b ≡ end_second k) where
  pub third-decides : b ≡ 0 → {c : ℕ} → c ≡ end_third k → eqb c 0 ≡ eqb (k % 256 ^ 2) 0
  unfolding end_second end_third
  third-decides z {c} f = eqb_same c 0 (k % 256 ^ 2) 0 (λ q. omega arith) (λ q. omega arith)

  pub second-decides : b ≢ 0 → false ≡ eqb (k % 256 ^ 2) 0
  unfolding end_second
  second-decides d = sym (ne_eqb (k % 256 ^ 2) 0 (λ q. d (omega arith)))

-- a word's prefix, read as that of a capability whose first word it is
prefix-read : (kind : Kind) (w : Bytes) → length w ≡ word_bytes → prefix_in_range kind (capability_in kind w) ≡ prefix_in_range kind (num w ∷ [])
unfolding word_count words prefix_up_to
prefix-read call w h = rw (take_all 32 w (omega arith))
prefix-read register w h = rw (take_all 32 w (omega arith))
prefix-read delete w h = rw (take_all 32 w (omega arith))
prefix-read set_entry w h = refl
prefix-read write w h = refl

-- a word
module _ (type count k v n : ℕ) {f : ℕ} (first : f ≡ end_first k) where
  pub other-type : type ≢ f → (kind : Kind) → number kind ≡ n → false ≡ word_row kind type count (k holds v)
  unfolding word_row
  other-type d kind q = rw (ne_eqb type (end_first k) (λ z. d (z ∙ sym first)))

  module _ (same : type ≡ f) {i : ℕ} (second : i ≡ end_second k) where
    type-is : eqb type (end_first k) ≡ true
    type-is = eq-eqb type (end_first k) (same ∙ first)

    pub no-capability : i < 1 → (kind : Kind) → number kind ≡ n → false ≡ word_row kind type count (k holds v)
    unfolding word_row
    no-capability h kind q = rw (type-is, ← second, lt-leb 1 i h)

    pub past-count : 1 ≤ i → count < i → (kind : Kind) → number kind ≡ n → false ≡ word_row kind type count (k holds v)
    unfolding word_row
    past-count h l kind q = rw (type-is, ← second, le-leb 1 i h, lt-leb i count l)

    module _ (one : 1 ≤ i) (within : i ≤ count) {w m : ℕ} (third : w ≡ end_third k) (size : m ≡ words_of n) where
      pub no_word : m ≤ w → (kind : Kind) → number kind ≡ n → false ≡ word_row kind type count (k holds v)
      unfolding word_row
      no_word h kind q = rw (type-is, ← second, le-leb 1 i one, le-leb i count within, ← third, words-of kind q size, le-ltb w m h)

      pub word-if : w < m → (bs : Bytes) → length bs ≡ word_bytes → num bs ≡ v → {r : Bool}
          → ((kind : Kind) → number kind ≡ n → r ≡ prefix_in_range kind (capability_in kind bs))
          → (kind : Kind) → number kind ≡ n → r ≡ word_row kind type count (k holds v)
      unfolding word_row
      word-if h bs long is ranged kind q =
          rw (type-is, ← second, le-leb 1 i one, le-leb i count within, ← third, words-of kind q size, lt-ltb w m h)
          (ranged kind q ∙ prefix-read kind bs long ∙ ap (λ (x : ℕ). prefix_in_range kind (x ∷ [])) is)

-- a count, or a word
module _ (type count k v n : ℕ) {a : Bool} (e : a ≡ eqb (k % 256 ^ 2) 0) where
  pub count-if : a ≡ true → {m : ℕ} → m ≡ min v small_limit → (kind : Kind) → number kind ≡ n → leb m 255 ≡ kind_row kind type count (k holds v)
  unfolding kind_row pick
  count-if t {m} h kind q = rw (sym e ∙ t) (leb-same m 255 v 255 (λ l. omega arith) (λ l. omega arith))

  pub word-row-if : a ≡ false → {r : Bool} → ((kind : Kind) → number kind ≡ n → r ≡ word_row kind type count (k holds v))
      → (kind : Kind) → number kind ≡ n → r ≡ kind_row kind type count (k holds v)
  unfolding kind_row pick
  word-row-if t is kind q = rw (sym e ∙ t) (is kind q)

-- what is counted behind a record
module _ (count k v : ℕ) {a : Bool} (e : a ≡ eqb (k % 256 ^ 2) 0) where
  pub counted-anew : a ≡ true → {m : ℕ} → m ≡ min v small_limit → m ≡ pick (eqb (k % 256 ^ 2) 0) (min v small_limit) count
  unfolding pick
  counted-anew t h = rw (sym e ∙ t) h

  pub counted-still : a ≡ false → count ≡ pick (eqb (k % 256 ^ 2) 0) (min v small_limit) count
  unfolding pick
  counted-still t = rw (sym e ∙ t)

-- the type that the key's end names, if it names one
module _ (type count k v : ℕ) {f : ℕ} (first : f ≡ end_first k) where
  pub known-if : is_type f ≡ true → {r : Bool} → ((kind : Kind) → number kind ≡ f → r ≡ kind_row kind type count (k holds v))
      → r ≡ later_row type count (k holds v)
  unfolding is_type later_row
  known-if t {r} is = go (kind_of (end_first k)) refl
    where
      go : (o : Option Kind) → kind_of (end_first k) ≡ o → r ≡ later_row type count (k holds v)
      go none q = let no : is_type f ≡ false = rw (first, q, is_type) in absurd (true≢false (sym t ∙ no))
      go (some kind) q = rw (q, later_row) (is kind (kind_of-some f kind (ap kind_of first ∙ q)))

  pub unknown-not : is_type f ≡ false → false ≡ later_row type count (k holds v)
  unfolding is_type later_row
  unknown-not t = go (kind_of (end_first k)) refl
    where
      go : (o : Option Kind) → kind_of (end_first k) ≡ o → false ≡ later_row type count (k holds v)
      go none q = rw (q, later_row)
      go (some kind) q = let yes : is_type f ≡ true = rw (first, q, is_type) in absurd (true≢false (sym yes ∙ t))
