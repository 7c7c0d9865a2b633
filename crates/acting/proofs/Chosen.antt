-- The capability that an index names. The index is judged as a whole word; one that is below the count is below 255, so its
-- capability's number fits a byte.
use Rattle.std.proofs.Common.{ℕ, suc, ◌+◌, ◌≤◌, ◌<◌, min, arith, ◌≡◌, refl, sym, ap, ◌∙◌, Bool, true, false, true≢false, not, ◌&&◌, leb, ltb, leb-true, leb-false, lt-ltb, le-ltb}
use Rattle.rules.specs.Words.{Bytes, word_bytes, num}
use Rattle.rules.specs.Table.{store}
use Rattle.rules.specs.Procedures.{count_of, current, capability}
use Rattle.rules.specs.Messages.{index_word}
use Rattle.rules.specs.Sound.{sound_table}
use Rattle.rules.specs.Calls.{index_out_of_range, chosen, not_covering}
use Rattle.words.specs.Words.{Holds, small_limit}
use Rattle.key_words.specs.KeyWords.{KeyPart}
use Rattle.rights.specs.Rights.{capability_in, CoversNeeds}
use Rattle.holding.specs.Holding.{CapabilityOf, no_capability}
use Rattle.acting.specs.Acting.{ActsOn}
use Rattle.acting.proofs.Holder.{holder, current-kind-sound}
use Rattle.laws.proofs.KindSound.{count-at-most, each-in-range}
use Rattle.rules.specs.Capabilities.{Kind, number, Capability, prefix_in_range, covers}
use Rattle.laws.proofs.KindFacts.{number-inj, word_count-small}

not-not : (b : Bool) → not (not b) ≡ b
not-not true = refl
not-not false = refl

module _ (t : Bytes) (g : sound_table t ≡ true) (d : Bytes) (kind : Kind) where
  -- an index in range is below the count
  pub index-below-count : true ≡ not (index_out_of_range (store t) d kind) → index_word d < count_of (store t) (current (store t)) kind
  unfolding index_out_of_range
  index-below-count e = go (leb (count_of (store t) (current (store t)) kind) (index_word d)) refl e
    where
      go : (b : Bool) → leb (count_of (store t) (current (store t)) kind) (index_word d) ≡ b → true ≡ not b
          → index_word d < count_of (store t) (current (store t)) kind
      go true q z = absurd (true≢false z)
      go false q z = leb-false _ _ q

  -- the index and the count, as the code reads them
  module _ {ib : Bytes} (f : Holds word_bytes ib (index_word d)) {i : ℕ} (e : i ≡ min (num ib) small_limit) where
    pub index-judged : {count : ℕ} → count ≡ count_of (store t) (current (store t)) kind → ltb i count ≡ not (index_out_of_range (store t) d kind)
    unfolding index_out_of_range
    index-judged {count} c =
        let few = count-at-most (store t) (current (store t)) kind (current-kind-sound t g kind) in
        go (leb (count_of (store t) (current (store t)) kind) (index_word d)) refl few
      where
        go : (b : Bool) → leb (count_of (store t) (current (store t)) kind) (index_word d) ≡ b
            → count_of (store t) (current (store t)) kind ≤ 255 → ltb i count ≡ not b
        go true q few = let out = leb-true (count_of (store t) (current (store t)) kind) (index_word d) q in le-ltb i count (omega (arith, out, c, e, f.number, few))
        go false q few = let in-range = leb-false (count_of (store t) (current (store t)) kind) (index_word d) q in lt-ltb i count (omega (arith, in-range, c, e, f.number, few))

    -- the number of the capability
    pub chosen-number : true ≡ not (index_out_of_range (store t) d kind) → i + 1 ≡ index_word d + 1
    chosen-number q =
        let few = count-at-most (store t) (current (store t)) kind (current-kind-sound t g kind) in
        omega (arith, index-below-count q, few, e, f.number)

    pub chosen-fits : true ≡ not (index_out_of_range (store t) d kind) → i + 1 < 256
    chosen-fits q =
        let few = count-at-most (store t) (current (store t)) kind (current-kind-sound t g kind) in
        omega (arith, index-below-count q, few, e, f.number)

-- the capability itself, read for the current procedure, whose key is a part of the word that holds it
module _ (t : Bytes) (g : sound_table t ≡ true) {w part : Bytes} (h : Holds word_bytes w (current (store t)))
    (p : KeyPart (num w) part)
    (d : Bytes) (kind : Kind) (in_range : true ≡ not (index_out_of_range (store t) d kind))
    {ib : Bytes} (f : Holds word_bytes ib (index_word d)) {i : ℕ} (e : i ≡ min (num ib) small_limit)
    {n : ℕ} (q : number kind ≡ n) {c : Bytes} (read : CapabilityOf (store t) (num part) n (i + 1) no_capability c) where
  is-chosen : capability_in kind c ≡ chosen (store t) d kind
  unfolding chosen
  is-chosen =
      let place : i + 1 ≡ suc (index_word d) = omega (arith, chosen-number t g d kind f e in_range) in
      read.is kind q
      ∙ ap (λ (y : ℕ). capability (store t) y kind (i + 1)) (holder t g h p)
      ∙ ap (capability (store t) (current (store t)) kind) place

  pub chosen-needs : {x : Bytes} → ActsOn n d x → CoversNeeds n c x
  unfolding chosen
  chosen-needs {x} a =
      let small = index-below-count t g d kind in_range in
      record {
        kind = kind;
        names = q;
        size = omega (arith, word_count-small kind, read.size);
        in_range =
            ap (prefix_in_range kind) is-chosen
            ∙ each-in-range (store t) (current (store t)) kind (current-kind-sound t g kind) (suc (index_word d)) (omega arith)
            (omega (arith, small));
        key = λ other. a.key (λ z. other (number-inj kind a.kind (q ∙ sym a.names) ∙ z));
      }

  pub covers-chosen : (x : ℕ) {r : Bool} → r ≡ covers kind (capability_in kind c) x
      → r ≡ (not (index_out_of_range (store t) d kind) && not (not_covering (store t) d kind x))
  unfolding not_covering
  covers-chosen x z =
      rw (← in_range) (z ∙ ap (λ (y : Capability). covers kind y x) is-chosen ∙ sym (not-not (covers kind (chosen (store t) d kind) x)))
