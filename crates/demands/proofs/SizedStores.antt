-- Every key and value that a call stores is a word, so a store of words stays one.
-- The keys of kernel storage are words, as their first four bytes say; the values stored there are keys, addresses and small numbers.
use Prim.Native.Nat.{ℕ, zero, suc, ◌+◌, ◌^◌, ◌≤◌, ◌<◌}
use native.Mathlib.Omega.{arith}
use native.Mathlib.Nat.{lt_of_le_of_lt, lt_trans, div-lt_iff_lt-mul}
use mathlib.Core.Path.{◌≡◌, sym, subst}
use mathlib.Core.List.{List, [], ◌∷◌}
use mathlib.Core.Bool.{Bool, true, false}
use lib.Dec.{eqb, ltb, lit<}
use lib.ListN.{length}
use borrow.Author.Tests.{eqb-true}
use Rattle.rules.specs.Words.{Every}
use Rattle.rules.specs.Table.{Record, Store, record_before, put, puts, Sized}
use Rattle.rules.specs.KernelStorage.{in_kernel_storage, slot, ending, address_slot, index_slot, count_slot, word_slot, length_slot, place_slot, current_slot, entry_slot}
use Rattle.rules.specs.Capabilities.{Kind, kinds, number, Capability}
use Rattle.rules.specs.Procedures.{list_length, key_at}
use Rattle.rules.specs.Messages.{Request, requested_of}
use Rattle.rules.specs.Calls.{of_procedure, without_procedure, after_delete, word_records, capability_records, kind_records, after_register}
use Rattle.rules.proofs.Lists.{◌also◌}
use Rattle.laws.proofs.Lists.{every_append}
use Rattle.laws.proofs.Slots.{Fits, slot-in_kernel_storage, fixed, in_procedure, zero-end, one_end, ending-fits}
use Rattle.laws.proofs.KindFacts.{number_small, word_count-small}
use Rattle.laws.proofs.Places.{place-fits}
use Rattle.laws.proofs.Procedures.{list-within}
use Rattle.demands.proofs.Deletion.{Deletion, freed-in, last-in}
use Rattle.laws.proofs.RegisterRecords.{Proper, Storable, Registration}

abbrev pub IsWord : ℕ → Type 0
IsWord x = x < 2 ^ 256

abbrev pub OfWords : Record → Type 0
OfWords e = IsWord e.key × IsWord e.value

-- The stores of one record, of several, and without a procedure's records.
record_before-sized : (k v : ℕ) (s : Store) → IsWord k → IsWord v → Sized s → Sized (record_before k v s)
unfolding record_before
record_before-sized k zero s hk hv z = z
record_before-sized k (suc v) s hk hv z = ((hk, hv), z)

pub put-sized : (s : Store) (k v : ℕ) → IsWord k → IsWord v → Sized s → Sized (put s k v)
unfolding put
put-sized [] k v hk hv z = record_before-sized k v [] hk hv tt
put-sized (e ∷ s) k v hk hv z = go (ltb e.key k) (eqb k e.key) (put-sized s k v hk hv z.1)
  where
    go : (before here : Bool) → Sized (put s k v)
        → Sized (elim before [ true ↦ e ∷ put s k v | false ↦ elim here [ true ↦ record_before k v s | false ↦ record_before k v (e ∷ s) ] ])
    go true here rest = (z.0, rest)
    go false true rest = record_before-sized k v s hk hv z.1
    go false false rest = record_before-sized k v (e ∷ s) hk hv z

pub puts-sized : (s : Store) (es : List Record) → Every OfWords es → Sized s → Sized (puts s es)
unfolding puts
puts-sized s [] h z = z
puts-sized s (e ∷ es) h z = puts-sized (put s e.key e.value) es h.1 (put-sized s e.key e.value h.0.0 h.0.1 z)

without-sized : (p : ℕ) (s : Store) → Sized s → Sized (without_procedure p s)
unfolding without_procedure
without-sized p [] z = tt
without-sized p (e ∷ s) z = go (of_procedure p e.key) (without-sized p s z.1)
  where
    go : (own : Bool) → Sized (without_procedure p s)
        → Sized (elim own [ true ↦ without_procedure p s | false ↦ e ∷ without_procedure p s ])
    go true rest = rest
    go false rest = (z.0, rest)

-- The keys of kernel storage.
pub kernel-word : (k : ℕ) → in_kernel_storage k ≡ true → IsWord k
unfolding in_kernel_storage
kernel-word k q =
    (div-lt_iff_lt-mul {k = 2 ^ 224} {y = 2 ^ 32} (lit< tt)).0
    (subst (λ (x : ℕ). x < 2 ^ 32) (sym (eqb-true _ _ q)) (lit< tt))

pub slot-word : {r m e : ℕ} → Fits r m e → IsWord (slot r m e)
slot-word {r} {m} {e} f = kernel-word (slot r m e) (slot-in_kernel_storage f)

place-slot-word : (n : ℕ) → n ≤ 1025 → IsWord (place_slot n)
unfolding place_slot
place-slot-word n h = slot-word (place-fits n h)

index-slot-word : (p : ℕ) → p < 2 ^ 192 → IsWord (index_slot p)
unfolding index_slot
index-slot-word p h = slot-word (in_procedure p h (ending 0 0 1) one_end)

address-slot-word : (p : ℕ) → p < 2 ^ 192 → IsWord (address_slot p)
unfolding address_slot
address-slot-word p h = slot-word (in_procedure p h (ending 0 0 0) zero-end)

length-slot-word : IsWord length_slot
unfolding length_slot
length-slot-word = slot-word (fixed 1 (omega arith))

pub current-slot-word : IsWord current_slot
unfolding current_slot
current-slot-word = slot-word (fixed 3 (omega arith))

pub entry-slot-word : IsWord entry_slot
unfolding entry_slot
entry-slot-word = slot-word (fixed 4 (omega arith))

-- The values stored there.
pub key-word : (p : ℕ) → p < 2 ^ 192 → IsWord p
key-word p h = lt_trans h (lit< tt)

pub address_word : (a : ℕ) → a < 2 ^ 160 → IsWord a
address_word a h = lt_trans h (lit< tt)

small_word : (x : ℕ) → x ≤ 65536 → IsWord x
small_word x h = lt_of_le_of_lt h (lit< tt)

-- Register's records, for the procedure p.
module _ (p : ℕ) (hp : p < 2 ^ 192) where
  ending-word : (kind : Kind) (i k : ℕ) → i < 256 → k < 256 → IsWord (slot 0 p (ending (number kind) i k))
  ending-word kind i k hi hk =
      slot-word (in_procedure p hp (ending (number kind) i k) (ending-fits (number kind) i k (number_small kind) hi hk))

  word_records-sized : (kind : Kind) (i k : ℕ) (c : Capability) → i < 256 → k + length c ≤ 256 → Every IsWord c
      → Every OfWords (word_records p kind i k c)
  unfolding word_records word_slot
  word_records-sized kind i k [] hi l h = tt
  word_records-sized kind i k (w ∷ c) hi l h =
      ((ending-word kind i k hi (omega arith), h.0), word_records-sized kind i (suc k) c hi (omega arith) h.1)

  capability_records-sized : (kind : Kind) (i : ℕ) (cs : List Capability) → i + length cs ≤ 256 → Every (Proper kind) cs
      → Every (Every IsWord) cs → Every OfWords (capability_records p kind i cs)
  unfolding capability_records
  capability_records-sized kind i [] l proper h = tt
  capability_records-sized kind i (c ∷ cs) l proper h =
      let long = proper.0.words in
      every_append OfWords (word_records p kind i 0 c) (capability_records p kind (suc i) cs)
      (word_records-sized kind i 0 c (omega arith) (omega (arith, word_count-small kind)) h.0)
      (capability_records-sized kind (suc i) cs (omega arith) proper.1 h.1)

  kind_records-sized : (rs : List Request) → Storable rs → ((kind : Kind) → Every (Every IsWord) (requested_of kind rs))
      → (ks : List Kind) → Every OfWords (kind_records p rs ks)
  unfolding kind_records count_slot
  kind_records-sized rs ok each [] = tt
  kind_records-sized rs ok each (kind ∷ ks) =
      let few = ok.few kind in
      (ending-word kind 0 0 (omega arith) (omega arith), small_word _ (omega arith))
      also every_append OfWords (capability_records p kind 1 (requested_of kind rs)) (kind_records p rs ks)
      (capability_records-sized kind 1 (requested_of kind rs) (omega arith) (ok.proper kind) (each kind))
      (kind_records-sized rs ok each ks)

pub after_register-sized : {s : Store} {p a : ℕ} {rs : List Request} → Registration s p a rs → Sized s
    → ((kind : Kind) → Every (Every IsWord) (requested_of kind rs)) → Sized (after_register s p a rs)
unfolding after_register
after_register-sized {s} {p} {a} {rs} r z each =
    let few = r.body.short in
    let fits = r.is_key.fits in
    puts-sized s _ (
    (place-slot-word _ (omega arith), key-word p fits)
    also (length-slot-word, small_word _ (omega arith))
    also (address-slot-word p fits, address_word a r.is_address.fits)
    also (index-slot-word p fits, small_word _ (omega arith))
    also kind_records-sized p fits rs r.storable each kinds)
    z

-- Delete's.
pub after_delete-sized : {n : ℕ} {s : Store} {p : ℕ} → Deletion n s p → Sized s → Sized (after_delete s p)
unfolding after_delete
after_delete-sized {n} {s} {p} d z =
    let few = list-within d.good in
    let place = (freed-in d).last in
    without-sized p _ (
    puts-sized s _ (
    (place-slot-word _ (omega arith), key-word _ last_fits)
    also (index-slot-word _ last_fits, small_word _ (omega arith))
    also (length-slot-word, small_word _ (omega arith))
    also (place-slot-word _ (omega arith), lit< tt)
    also tt)
    z)
  where
    last_fits : key_at s (list_length s) < 2 ^ 192
    last_fits = (d.good.sound.keys (list_length s) (last-in d)).fits
