-- The words of a held capability, looked up in the table and put one behind the other: they are the capability that the store
-- holds.
use Rattle.std.proofs.Common.{ℕ, ◌+◌, ◌*◌, min, arith, ◌≡◌, refl, sym, ap, ap₂, ◌∙◌, [], ◌∷◌, ◌++◌, true, length, take, drop, length-append, length-drop, take_at, drop_at, drop-drop}
use borrow.Rule.Slice.PartMut.{put_mid, post_of}
use Rattle.rules.specs.Words.{Bytes, num, word, words}
use Rattle.rules.specs.Table.{Store, get, store, record_form}
use Rattle.rules.specs.KernelStorage.{count_slot, word_slot}
use Rattle.rules.specs.Procedures.{words_from, capability}
use Rattle.rules.specs.Source.{words_of}
use Rattle.laws.proofs.KindFacts.{words-of}
use Rattle.laws.proofs.Words.{length-word}
use Rattle.laws.proofs.TableRecords.{formed, formed-bytes}
use Rattle.laws.proofs.Looked.{looked-number}
use Rattle.words.specs.Words.{small_limit}
use Rattle.slots.specs.Slots.{KeyOf}
use Rattle.finding.specs.Finding.{keys_below}
use Rattle.finding.proofs.Places.{Present, Absent}
use Rattle.finding.proofs.Finding.{look-present}
use Rattle.holding.specs.Holding.{WordOf, CountOf, CapabilityOf, guess_behind, WordsRead}

-- What is looked up at a slot.
module _ (t : Bytes) (form : record_form t ≡ true) {slot : ℕ} {key w : Bytes}
    (k : KeyOf slot key) (q : w ≡ word (get (store t) (num key))) where
  pub looked : WordOf (get (store t) slot) w
  looked =
      record {
        size = ap length q ∙ length-word _;
        number = ap num q ∙ looked-number t (formed-bytes t (formed t form)) (num key) ∙ ap (get (store t)) k.number;
      }

-- and at the slot of a count
module _ (t : Bytes) {p n : ℕ} {key : Bytes} {i : ℕ} (k : KeyOf (count_slot p n) key) where
  pub counted : {w : Bytes} → record_form t ≡ true → Present (store t) (num key) i
      → w ≡ take 32 (drop (64 * i + 32) t) → {number : ℕ} → number ≡ min (num w) small_limit
      → CountOf (store t) p n (record { number = number; place = i })
  counted f there q e =
      record {
        number = e ∙ ap (λ (x : ℕ). min x small_limit) (looked t f k (q ∙ look-present t (num key) i f there)).number;
        place = there.place ∙ ap (keys_below (store t)) k.number;
      }

  pub counted_none : Absent (store t) (num key) i → CountOf (store t) p n (record { number = 0; place = i })
  counted_none gone =
      let none : get (store t) (count_slot p n) ≡ 0 = ap (get (store t)) (sym k.number) ∙ gone.none in
      record { number = omega (arith, none); place = gone.place ∙ ap (keys_below (store t)) k.number }

-- The words of bytes that begin with one word, and with two.
one_in : (a rest : Bytes) → length a ≡ 32 → words 1 (a ++ rest) ≡ num a ∷ []
unfolding words
one_in a rest l = ap (λ (x : Bytes). num x ∷ []) (take_at a rest 32 l)

two_in : (a b rest : Bytes) → length a ≡ 32 → length b ≡ 32 → words 2 (a ++ (b ++ rest)) ≡ num a ∷ num b ∷ []
unfolding words
two_in a b rest l m =
    ap₂ (λ (x y : Bytes). num x ∷ num y ∷ []) (take_at a (b ++ rest) 32 l)
    (ap (take 32) (drop_at a (b ++ rest) 32 l) ∙ take_at b rest 32 m)

-- The capability that is read, by how many words it has.
module _ {s : Store} {p n i : ℕ} where
  in-none : (bs : Bytes) → length bs ≡ 64 → 0 ≡ words_of n → CapabilityOf s p n i bs bs
  unfolding words capability words_from
  in-none bs l e = record { size = l; is = λ k q. rw (words-of k q e); behind = refl }

  in_one : (bs : Bytes) → length bs ≡ 64 → {first : Bytes} → WordOf (get s (word_slot p n i 0)) first → 1 ≡ words_of n
      → CapabilityOf s p n i bs (first ++ post_of 0 32 bs)
  unfolding capability words_from
  in_one bs l {first} h e =
      record {
        size = simp (length-append, length-drop) (omega (arith, h.size));
        is = λ k q. rw (words-of k q e) (one_in first (drop 32 bs) h.size ∙ ap (λ (x : ℕ). x ∷ []) (rw q h.number));
        behind = rw (sym e) (drop_at first (drop 32 bs) 32 h.size);
      }

  in_two : (bs : Bytes) → length bs ≡ 64 → {first second : Bytes} → WordOf (get s (word_slot p n i 0)) first
      → WordOf (get s (word_slot p n i 1)) second → 2 ≡ words_of n
      → CapabilityOf s p n i bs (put_mid 32 32 (first ++ post_of 0 32 bs) second)
  unfolding capability words_from
  in_two bs l {first} {second} h g e =
      let front : take 32 (first ++ drop 32 bs) ≡ first = take_at first (drop 32 bs) 32 h.size in
      let back : drop 32 (first ++ drop 32 bs) ≡ drop 32 bs = drop_at first (drop 32 bs) 32 h.size in
      rw (front, back)
      (record {
        size = simp (length-append, length-drop) (omega (arith, h.size, g.size));
        is = λ k q.
            rw (words-of k q e)
            (two_in first second (drop 32 (drop 32 bs)) h.size g.size
            ∙ ap₂ (λ (x y : ℕ). x ∷ y ∷ []) (rw q h.number) (rw q g.number));
        behind =
            rw (sym e)
            (sym (drop-drop 32 32 (first ++ (second ++ drop 32 (drop 32 bs))))
            ∙ ap (drop 32) (drop_at first (second ++ drop 32 (drop 32 bs)) 32 h.size)
            ∙ drop_at second (drop 32 (drop 32 bs)) 32 g.size
            ∙ drop-drop 32 32 bs);
      })

-- and where the next one is looked for: behind the last word
module _ (t : Bytes) (form : record_form t ≡ true) {p n i guess : ℕ} (bs : Bytes) (l : length bs ≡ 64) where
  pub read_none : 0 ≡ words_of n → WordsRead (store t) p n i guess bs bs guess
  unfolding guess_behind
  read_none e = record { held = in-none bs l e; next = rw (sym e, guess_behind) }

  module _ {key first : Bytes} {next : ℕ} (k : KeyOf (word_slot p n i 0) key)
      (q : (first ≡ word (get (store t) (num key))) × (next ≡ keys_below (store t) (num key + 1))) where
    pub read_one : 1 ≡ words_of n → WordsRead (store t) p n i guess bs (first ++ post_of 0 32 bs) next
    unfolding guess_behind
    read_one e =
        record {
          held = in_one bs l (looked t form k q.0) e;
          next = rw (sym e, guess_behind) (q.1 ∙ ap (λ (x : ℕ). keys_below (store t) (x + 1)) k.number);
        }

    pub read-two : {key₂ second : Bytes} {last : ℕ} → KeyOf (word_slot p n i 1) key₂
        → (second ≡ word (get (store t) (num key₂))) × (last ≡ keys_below (store t) (num key₂ + 1)) → 2 ≡ words_of n
        → WordsRead (store t) p n i guess bs (put_mid 32 32 (first ++ post_of 0 32 bs) second) last
    unfolding guess_behind
    read-two k₂ q₂ e =
        record {
          held = in_two bs l (looked t form k q.0) (looked t form k₂ q₂.0) e;
          next = rw (sym e, guess_behind) (q₂.1 ∙ ap (λ (x : ℕ). keys_below (store t) (x + 1)) k₂.number);
        }
