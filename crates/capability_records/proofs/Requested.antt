-- The loop over the requests that stores those of one type: i of them are stored, and the capabilities of that type among the
-- requests that are left are left to store.
use Rattle.std.proofs.Common.{ℕ, suc, ◌+◌, ◌≤◌, arith, add-one, ◌≡◌, refl, sym, ap, ◌∙◌, List, [], ◌∷◌, ◌++◌, length}
use Rattle.rules.specs.Words.{Bytes, words}
use Rattle.rules.specs.Table.{puts, store}
use Rattle.rules.specs.Capabilities.{Kind, number, word_count}
use Rattle.rules.specs.Messages.{requests, requested_of}
use Rattle.rules.specs.Calls.{word_records, capability_records}
use Rattle.laws.proofs.KindFacts.{number-inj}
use Rattle.storing.specs.declared.table.Table.{Table}
use Rattle.series.specs.Series.{left, FirstLeft}
use Rattle.series.specs.declared.Series.{Series}
use Rattle.series.specs.declared.Request.{Request as Found}
use Rattle.series.proofs.Counted.{requested-same, requested-other}
use Rattle.capability_records.specs.CapabilityRecords.{WordsNeeds, WordsStored, KindStored}
use Rattle.capability_records.proofs.Left.{Left, left-none, left-takes, left_after}

no_length : {A : Type 0} (xs : List A) → length xs ≡ 0 → xs ≡ []
no_length [] h = refl
no_length (x ∷ xs) h = absurd (omega (arith, h))

pub record StoringKind (before now : Table) (p n count : ℕ) (d : Bytes) (i : ℕ) (it : Series) : Type 0 where
  pub kind : Kind
  pub names : number kind ≡ n
  pub few : count ≤ 255
  pub counted : count ≡ i + length (requested_of kind (left it))
  pub rest : Left before now (capability_records p kind (i + 1) (requested_of kind (left it)))
      (puts (store before.bytes.now) (capability_records p kind 1 (requested_of kind (requests d))))

module _ {before now : Table} {p n count : ℕ} {d : Bytes} {i : ℕ} {it : Series} (w : StoringKind before now p n count d i it)
    {r : Found} {more : Series} (q : FirstLeft it r more) where
  -- a request of another type is passed over
  pub kind-pass : (r.kind.0 ≡ n → ⊥) → StoringKind before now p n count d i more
  kind-pass other =
      let later : requested_of w.kind (left it) ≡ requested_of w.kind (left more) =
      ap (requested_of w.kind) q.first ∙ requested-other w.kind q.request (left more) (λ e. other (q.type ∙ sym e ∙ w.names)) in
      record {
        kind = w.kind;
        names = w.names;
        few = w.few;
        counted = rw later at w.counted;
        rest = rw later at w.rest;
      }

  -- one of the type is stored
  module _ (is : r.kind.0 ≡ n) where
    same : q.request.kind ≡ w.kind
    same = number-inj q.request.kind w.kind (sym q.type ∙ is ∙ sym w.names)

    its-words : q.request.capability ≡ words (word_count w.kind) r.words.now
    its-words = q.capability ∙ ap (λ (k : Kind). words (word_count k) r.words.now) same

    one : requested_of w.kind (left it) ≡ words (word_count w.kind) r.words.now ∷ requested_of w.kind (left more)
    one =
        ap (requested_of w.kind) q.first
        ∙ requested-same w.kind q.request (left more) (ap number (sym same))
        ∙ ap (λ (ws : List ℕ). ws ∷ requested_of w.kind (left more)) its-words

    split : capability_records p w.kind (i + 1) (requested_of w.kind (left it))
        ≡ word_records p w.kind (i + 1) 0 (words (word_count w.kind) r.words.now)
        ++ capability_records p w.kind (i + 1 + 1) (requested_of w.kind (left more))
    unfolding capability_records
    split = let next : i + 1 + 1 ≡ suc (i + 1) = add-one (i + 1) in rw (one, next)

    pub kind-ready : WordsNeeds now.bytes.now p n (i + 1) r.words.now
    kind-ready =
        record {
          kind = w.kind;
          names = w.names;
          within = omega (arith, q.size, ap word_count same);
          takes = left-takes w.rest _ _ split;
        }

    pub kind-turn : {later : Table} → WordsStored now later p n (i + 1) r.words.now
        → StoringKind before later p n count d (i + 1) more
    kind-turn s =
        record {
          kind = w.kind;
          names = w.names;
          few = w.few;
          counted = omega (arith, w.counted, ap length one);
          rest = left_after w.rest _ _ split (s w.kind w.names);
        }

-- where all are stored, or no request is left, none of the type is left
module _ {before now : Table} {p n count : ℕ} {d : Bytes} {i : ℕ} {it : Series}
    (w : StoringKind before now p n count d i it) where
  end : requested_of w.kind (left it) ≡ [] → KindStored before now p n d
  unfolding capability_records
  end none kind names =
      let same : w.kind ≡ kind = number-inj w.kind kind (w.names ∙ sym names) in
      rw same at (left-none (rw none at w.rest))

  pub kind-full : i ≡ count → KindStored before now p n d
  kind-full h = end (no_length (requested_of w.kind (left it)) (omega (arith, w.counted)))

  pub kind-end : left it ≡ [] → KindStored before now p n d
  unfolding requested_of
  kind-end e = end (ap (requested_of w.kind) e)
