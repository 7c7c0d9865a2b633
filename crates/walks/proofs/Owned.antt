-- What soundness says of one record of region 00, read by its key: its procedure stands in the list at the place that its index
-- names and has an address, and the record is one of the four rows of a procedure. A store is sound by such records, and has them if it is.
use Rattle.std.proofs.Common.{ℕ, zero, suc, ◌%◌, ◌^◌, ◌≤◌, ◌<◌, arith, ◌≡◌, refl, sym, ap, ◌∙◌, ◌≢◌, ◌⊎◌, inl, inr, [], ◌∷◌, true}
use Rattle.rules.specs.Table.{Store, get}
use Rattle.rules.specs.KernelStorage.{slot, ending, middle_of, address_slot, index_slot, count_slot, word_slot, length_slot, kernel_address_slot, current_slot, entry_slot}
use Rattle.rules.specs.Capabilities.{Kind, call, register, delete, set_entry, write, number, word_count, prefix_up_to, prefix_in_range, prefix, word_of, greatest_prefix}
use Rattle.rules.specs.Procedures.{key_at, address_of, index_of, count_of, words_from, capability, InList, Listed}
use Rattle.rules.specs.Sound.{greatest_count, IsAddress, Belongs, address, index, count, capability_word, list_length_here, place, kernel_address_here, current_here, entry_here, Sound}
use Rattle.laws.proofs.Numbers.{same_or_not}
use Rattle.laws.proofs.KindFacts.{number_small, number-least, number-inj, word_count-small}
use Rattle.laws.proofs.Slots.{in_procedure, zero-end, one_end, ending-fits, ending-type, ending-middle, slot-middle_of, slot-less-region, slot-in_kernel_storage}
use Rattle.laws.proofs.Places.{PlaceSound}
use Rattle.keys.specs.Keys.{end_first}
use Rattle.walks.specs.Walks.{first_slot}
use Rattle.walks.proofs.Fronts.{kernel-from, own_key, own-end, fixed-behind, places_behind}

pub record Block (s : Store) (p : ℕ) : Type 0 where
  pub in_list : InList s (index_of s p)
  pub here : key_at s (index_of s p) ≡ p
  pub address : IsAddress (address_of s p)

pub data Row (s : Store) (p e v : ℕ) : Type 0 where
  of_address : e ≡ 0 → Row s p e v
  of_index : e ≡ 1 → Row s p e v
  of_count : (kind : Kind) → e ≡ ending (number kind) 0 0 → v ≤ greatest_count → Row s p e v
  of_word : (kind : Kind) (i w : ℕ) → e ≡ ending (number kind) i w → i < 256 → 1 ≤ i → i ≤ count_of s p kind → w < word_count kind
      → prefix_in_range kind (v ∷ []) ≡ true → Row s p e v

pub record Owned (s : Store) (k v : ℕ) : Type 0 where
  pub block : Block s (middle_of k)
  pub row : Row s (middle_of k) (k % 256 ^ 3) v

-- the record of a count says how many capabilities are counted
pub zeros-end : (k : ℕ) {n : ℕ} → end_first k ≡ n → k % 256 ^ 2 ≡ 0 → k % 256 ^ 3 ≡ ending n 0 0
unfolding ending end_first
zeros-end k e z = omega arith

pub count-here : (s : Store) (k : ℕ) → first_slot ≤ k → k < length_slot → (kind : Kind) → end_first k ≡ number kind → k % 256 ^ 2 ≡ 0
    → count_of s (middle_of k) kind ≡ get s k
unfolding count_of count_slot
count-here s k from below kind e z = ap (get s) (ap (slot 0 (middle_of k)) (sym (zeros-end k e z)) ∙ own_key k from below)

-- a word's prefix is its capability's, and the other way; a type without a prefix has none to judge
module _ (s : Store) (p i : ℕ) where
  prefix-word : (kind : Kind) (w v : ℕ) → w < word_count kind → get s (word_slot p (number kind) i w) ≡ v
      → prefix_in_range kind (capability s p kind i) ≡ true → prefix_in_range kind (v ∷ []) ≡ true
  unfolding capability words_from word_count prefix_up_to prefix word_of
  prefix-word call zero v h e q = rw e at q
  prefix-word call (suc w) v h e q = absurd (omega arith)
  prefix-word register zero v h e q = rw e at q
  prefix-word register (suc w) v h e q = absurd (omega arith)
  prefix-word delete zero v h e q = rw e at q
  prefix-word delete (suc w) v h e q = absurd (omega arith)
  prefix-word set_entry w v h e q = refl
  prefix-word write w v h e q = refl

  word-prefix : (kind : Kind) → (1 ≤ word_count kind → prefix_in_range kind (get s (word_slot p (number kind) i 0) ∷ []) ≡ true)
      → prefix_in_range kind (capability s p kind i) ≡ true
  unfolding capability words_from word_count prefix_up_to prefix word_of
  word-prefix call h = h (omega arith)
  word-prefix register h = h (omega arith)
  word-prefix delete h = h (omega arith)
  word-prefix set_entry h = refl
  word-prefix write h = refl

no-prefix : (kind : Kind) → prefix_in_range kind (0 ∷ []) ≡ true
unfolding prefix_up_to prefix word_of greatest_prefix
no-prefix call = refl
no-prefix register = refl
no-prefix delete = refl
no-prefix set_entry = refl
no-prefix write = refl

-- From a sound store to its records.
module _ (s : Store) (h : Sound s) where
  block_of : {p : ℕ} → Listed s p → Block s p
  block_of {p} l =
      let place : index_of s p ≡ l.place = ap (index_of s) (sym l.here) ∙ h.indexes l.place l.in_list in
      record { in_list = rw place l.in_list; here = rw place l.here; address = rw l.here at (h.addresses l.place l.in_list) }

  owned_at : {p v : ℕ} (e : ℕ) → e < 2 ^ 24 → Listed s p → Row s p e v → Owned s (slot 0 p e) v
  owned_at {p} e end l row =
      let fits : p < 2 ^ 192 = rw l.here at (h.keys l.place l.in_list).fits in
      let middle = slot-middle_of (in_procedure p fits e end) in
      record { block = rw middle (block_of l); row = rw (middle, own-end p e end) row }

  pub belongs-owned : (k v : ℕ) → k < length_slot → get s k ≡ v → Belongs s k → Owned s k v
  unfolding address_slot index_slot count_slot word_slot ending kernel_address_slot current_slot entry_slot
  belongs-owned k v before here (address l) = owned_at 0 zero-end l (of_address refl)
  belongs-owned k v before here (index l) = owned_at 1 one_end l (of_index refl)
  belongs-owned k v before here (count {p} l kind) =
      let few : count_of s p kind ≤ greatest_count = rw l.here at (h.counts l.place l.in_list kind) in
      owned_at _ (ending-fits (number kind) 0 0 (number_small kind) (omega arith) (omega arith)) l
      (of_count kind refl (rw (← here) (unfold count_of count_slot in few)))
  belongs-owned k v before here (capability_word {p} l kind i w first last word) =
      let few : count_of s p kind ≤ greatest_count = rw l.here at (h.counts l.place l.in_list kind) in
      let range = rw l.here at (h.prefixes l.place l.in_list kind i first (rw l.here last)) in
      owned_at _ (ending-fits (number kind) i w (number_small kind) (omega arith) (omega (arith, word_count-small kind))) l
      (of_word kind i w refl (omega arith) first last word (prefix-word s p i kind w v word here range))
  belongs-owned k v before here list_length_here = absurd (omega arith)
  belongs-owned k v before here (place n i) = absurd (omega (arith, places_behind n))
  belongs-owned k v before here kernel_address_here = absurd (omega (arith, fixed-behind 2 (omega arith)))
  belongs-owned k v before here current_here = absurd (omega (arith, fixed-behind 3 (omega arith)))
  belongs-owned k v before here entry_here = absurd (omega (arith, fixed-behind 4 (omega arith)))

-- From its records to a sound store. A record's key belongs.
pub owned-belongs : (s : Store) (k v : ℕ) → first_slot ≤ k → k < length_slot → Owned s k v → Belongs s k
unfolding address_slot index_slot count_slot word_slot ending
owned-belongs s k v from before o = go o.row
  where
    whole : {e : ℕ} → k % 256 ^ 3 ≡ e → slot 0 (middle_of k) e ≡ k
    whole q = ap (slot 0 (middle_of k)) (sym q) ∙ own_key k from before

    l : Listed s (middle_of k)
    l = record { place = index_of s (middle_of k); in_list = o.block.in_list; here = o.block.here }

    go : Row s (middle_of k) (k % 256 ^ 3) v → Belongs s k
    go (of_address e) = rw (← whole e) (address l)
    go (of_index e) = rw (← whole e) (index l)
    go (of_count kind e few) = rw (← whole e) (count l kind)
    go (of_word kind i w e byte first last word range) = rw (← whole e) (capability_word l kind i w first last word)

-- a row told by its end
module _ (s : Store) (p : ℕ) (kind : Kind) {v : ℕ} where
  count-row : Row s p (ending (number kind) 0 0) v → v ≤ greatest_count
  unfolding ending
  count-row (of_address e) = absurd (omega (arith, number-least kind))
  count-row (of_index e) = absurd (omega (arith, number-least kind))
  count-row (of_count other e few) = few
  count-row (of_word other i w e byte first last word range) = absurd (omega (arith, word_count-small other))

  word_row : (i : ℕ) → 1 ≤ i → i < 256 → Row s p (ending (number kind) i 0) v → prefix_in_range kind (v ∷ []) ≡ true
  unfolding ending
  word_row i one byte (of_address e) = absurd (omega (arith, number-least kind))
  word_row i one byte (of_index e) = absurd (omega (arith, number-least kind))
  word_row i one byte (of_count other e few) =
      absurd (omega (arith, ending-middle (number kind) i 0 (number other) 0 0 byte (omega arith) (omega arith) (omega arith) e))
  word_row i one byte (of_word other j w e small first last word range) =
      let names : number kind ≡ number other = ending-type _ i 0 _ j w byte small (omega arith) (omega (arith, word_count-small other)) e in
      rw (number-inj kind other names) range

-- a place of the list, by the records of the procedure that stands there
module _ (s : Store) (own : (k : ℕ) → first_slot ≤ k → k < length_slot → get s k ≢ 0 → Owned s k (get s k)) (p : ℕ) (fits : p < 2 ^ 192) where
  row_at : (e : ℕ) → e < 2 ^ 24 → get s (slot 0 p e) ≢ 0 → Row s p e (get s (slot 0 p e))
  unfolding length_slot
  row_at e end present =
      let f = in_procedure p fits e end in
      let row = (own (slot 0 p e) (kernel-from _ (slot-in_kernel_storage f)) (slot-less-region 0 0 f (omega arith)) present).row in
      rw (slot-middle_of f, own-end p e end) at row

  few : (kind : Kind) → count_of s p kind ≤ greatest_count
  unfolding count_of count_slot
  few kind = go (same_or_not (get s (slot 0 p (ending (number kind) 0 0))) 0)
    where
      go : (get s (slot 0 p (ending (number kind) 0 0)) ≡ 0) ⊎ (get s (slot 0 p (ending (number kind) 0 0)) ≢ 0)
          → get s (slot 0 p (ending (number kind) 0 0)) ≤ greatest_count
      go (inl absent) = omega arith
      go (inr present) =
          count-row s p kind (row_at _ (ending-fits (number kind) 0 0 (number_small kind) (omega arith) (omega arith)) present)

  ranged : (kind : Kind) (i : ℕ) → 1 ≤ i → i ≤ count_of s p kind → prefix_in_range kind (capability s p kind i) ≡ true
  unfolding word_slot
  ranged kind i one last = word-prefix s p i kind (λ some. go (same_or_not (get s (slot 0 p (ending (number kind) i 0))) 0))
    where
      byte : i < 256
      byte = omega (arith, few kind)

      go : (get s (slot 0 p (ending (number kind) i 0)) ≡ 0) ⊎ (get s (slot 0 p (ending (number kind) i 0)) ≢ 0)
          → prefix_in_range kind (get s (slot 0 p (ending (number kind) i 0)) ∷ []) ≡ true
      go (inl absent) = rw absent (no-prefix kind)
      go (inr present) =
          word_row s p kind i one byte (row_at _ (ending-fits (number kind) i 0 (number_small kind) byte (omega arith)) present)

  pub place-sound : (n : ℕ) → key_at s n ≡ p → 1 ≤ p → index_of s p ≡ n → IsAddress (address_of s p) → PlaceSound s n
  place-sound n here one own-place own-address =
      record {
        key = rw here (record { non_zero = one; fits = fits });
        address_fits = rw here own-address;
        index = rw here own-place;
        counts = λ kind. rw here (few kind);
        prefixes = λ kind i first last. rw here (ranged kind i first (rw here at last));
      }
