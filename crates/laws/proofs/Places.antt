-- How soundness and what a procedure holds are carried from one store to another: place by place of the list.
-- Every call changes few slots, so most procedures have the same slots before and after (`Agree`), and their places stay sound.
use Prim.Native.Nat.{ℕ, zero, suc, ◌+◌, ◌^◌, ◌≤◌, ◌<◌}
use native.Mathlib.Omega.{arith}
use native.Mathlib.Nat.{lt_of_le_of_lt}
use mathlib.Core.Path.{◌≡◌, refl, sym, ap, ◌∙◌}
use mathlib.Core.Logic.{◌≢◌}
use mathlib.Core.Bool.{true}
use lib.Dec.{lit<}
use Rattle.rules.specs.Table.{Store, get}
use Rattle.rules.specs.KernelStorage.{in_kernel_storage, slot, ending, address_slot, index_slot, count_slot, word_slot, length_slot, place_slot, kernel_address_slot, current_slot, entry_slot}
use Rattle.rules.specs.Capabilities.{Kind, number, word_count, prefix_in_range}
use Rattle.rules.specs.Procedures.{list_length, key_at, address_of, index_of, count_of, kernel_address, current, entry_key, words_from, capability, capabilities_from, held, InList, Listed, Kept}
use Rattle.rules.specs.Sound.{IsKey, IsAddress, Belongs, address, index, count, capability_word, list_length_here, place, kernel_address_here, current_here, entry_here, Sound}
use Rattle.laws.proofs.KindFacts.{number_small, number-least, word_count-small}
use Rattle.laws.proofs.Slots.{Fits, slot-middle, regions-apart, fixed, in_procedure, at_place, zero-end, one_end, ending-fits, ending-one}

-- Two stores agree on a procedure: every slot of its region 00 holds the same in both, but for its index (the end 00 00 01),
-- which alone changes when Delete moves a procedure to another place.
abbrev pub Agree : Store → Store → ℕ → Type 0
Agree s s' p = (e : ℕ) → e < 2 ^ 24 → (e ≡ 1 → ⊥) → get s' (slot 0 p e) ≡ get s (slot 0 p e)

module _ (s s' : Store) (p : ℕ) (agree : Agree s s' p) where
  -- a slot whose end begins with a type's number
  typed-agrees : (kind : Kind) (i k : ℕ) → i < 256 → k < 256
      → get s' (slot 0 p (ending (number kind) i k)) ≡ get s (slot 0 p (ending (number kind) i k))
  typed-agrees kind i k h l =
      agree (ending (number kind) i k) (ending-fits (number kind) i k (number_small kind) h l)
      (ending-one (number kind) i k (number-least kind))

  pub address-agrees : address_of s' p ≡ address_of s p
  unfolding address_of address_slot
  address-agrees = agree (ending 0 0 0) zero-end (unfold ending in (λ q. omega arith))

  pub count-agrees : (kind : Kind) → count_of s' p kind ≡ count_of s p kind
  unfolding count_of count_slot
  count-agrees kind = typed-agrees kind 0 0 (omega arith) (omega arith)

  words-agree : (kind : Kind) (i : ℕ) → i ≤ 255 → (n k : ℕ) → n + k ≤ 256 → words_from s' p kind i n k ≡ words_from s p kind i n k
  unfolding words_from word_slot
  words-agree kind i h zero k l = refl
  words-agree kind i h (suc n) k l =
      let first = typed-agrees kind i k (omega arith) (omega arith) in
      let rest = words-agree kind i h n (suc k) (omega arith) in
      cc

  pub capability-agrees : (kind : Kind) (i : ℕ) → i ≤ 255 → capability s' p kind i ≡ capability s p kind i
  unfolding capability
  capability-agrees kind i h = words-agree kind i h (word_count kind) 0 (omega (arith, word_count-small kind))

  capabilities-agree : (kind : Kind) (n i : ℕ) → n + i ≤ 256 → capabilities_from s' p kind n i ≡ capabilities_from s p kind n i
  unfolding capabilities_from
  capabilities-agree kind zero i h = refl
  capabilities-agree kind (suc n) i h =
      let first = capability-agrees kind i (omega arith) in
      let rest = capabilities-agree kind n (suc i) (omega arith) in
      cc

  pub held-agrees : (kind : Kind) → count_of s p kind ≤ 255 → held s' p kind ≡ held s p kind
  unfolding held
  held-agrees kind h = rw (count-agrees kind) (capabilities-agree kind (count_of s p kind) 1 (omega arith))

-- What soundness says of one place n of the list and of the procedure that stands there: `Sound` without what it says of the
-- list as a whole, so that a proof can go through the places of a changed list one by one.
pub record PlaceSound (s : Store) (n : ℕ) : Type 0 where
  pub key : IsKey (key_at s n)
  pub address_fits : IsAddress (address_of s (key_at s n))
  pub index : index_of s (key_at s n) ≡ n
  pub counts : (kind : Kind) → count_of s (key_at s n) kind ≤ 255
  pub prefixes : (kind : Kind) (i : ℕ) → 1 ≤ i → i ≤ count_of s (key_at s n) kind
      → prefix_in_range kind (capability s (key_at s n) kind i) ≡ true

pub place_sound_of : (s : Store) → Sound s → (n : ℕ) → InList s n → PlaceSound s n
place_sound_of s h n i =
    record {
      key = h.keys n i;
      address_fits = h.addresses n i;
      index = h.indexes n i;
      counts = h.counts n i;
      prefixes = h.prefixes n i;
    }

-- A sound place is carried to a new store: the procedure of the old place m stands at the new place n, has that index there,
-- and both stores agree on the rest of it.
pub carried : (s s' : Store) (m n : ℕ) → PlaceSound s m → key_at s' n ≡ key_at s m → Agree s s' (key_at s m)
    → index_of s' (key_at s m) ≡ n → PlaceSound s' n
carried s s' m n h q agree i =
    record {
      key = rw q h.key;
      address_fits = rw q (rw (address-agrees s s' (key_at s m) agree) h.address_fits);
      index = rw q i;
      counts = λ kind. rw q (rw (count kind) (h.counts kind));
      prefixes = λ kind j a b.
          let b' : j ≤ count_of s (key_at s m) kind = rw (q, count kind) at b in
          let fits : j ≤ 255 = omega (arith, h.counts kind) in
          rw q (rw (capability-agrees s s' (key_at s m) agree kind j fits) (h.prefixes kind j a b'));
    }
  where
    count : (kind : Kind) → count_of s' (key_at s m) kind ≡ count_of s (key_at s m) kind
    count = count-agrees s s' (key_at s m) agree

-- A store is sound when each place is, and the rest holds. Keys are distinct, since each has one index and it is its place.
pub sound_from : (s : Store) → 1 ≤ list_length s → ((n : ℕ) → InList s n → PlaceSound s n)
    → Listed s (current s) → Listed s (entry_key s) → IsAddress (kernel_address s)
    → ((k : ℕ) → in_kernel_storage k ≡ true → get s k ≢ 0 → Belongs s k) → Sound s
sound_from s one places current entry kernel other =
    record {
      at_least_one = one;
      keys = λ n i. (places n i).key;
      distinct = λ m n i j q. sym (places m i).index ∙ ap (index_of s) q ∙ (places n j).index;
      addresses = λ n i. (places n i).address_fits;
      indexes = λ n i. (places n i).index;
      counts = λ n i. (places n i).counts;
      current_listed = current;
      entry_listed = entry;
      kernel_address_fits = kernel;
      prefixes = λ n i. (places n i).prefixes;
      nothing_else = other;
    }

-- The part of soundness that Register needs of the store it adds to. It says nothing of the current key, the entry key and the
-- kernel address, and it allows an empty list: so it also holds of the store in which set-up registers the first procedure.
pub record Body (s : Store) : Type 0 where
  pub short : list_length s ≤ 1024
  pub places : (n : ℕ) → InList s n → PlaceSound s n
  pub nothing_else : (k : ℕ) → in_kernel_storage k ≡ true → get s k ≢ 0 → Belongs s k

-- a listed procedure on which both stores agree keeps its capabilities
pub same_from : (s s' : Store) (p : ℕ) → (l : Listed s p) → PlaceSound s l.place → Agree s s' p → Kept s s' p
same_from s s' p l h agree =
    record {
      was = l;
      address = address-agrees s s' p agree;
      holds = λ kind. held-agrees s s' p agree kind (rw l.here at (h.counts kind));
    }

-- the key of a listed procedure has 24 bytes
pub listed-fits : {s : Store} {p : ℕ} → Body s → Listed s p → p < 2 ^ 192
listed-fits b l = rw l.here at (b.places l.place l.in_list).key.fits

-- a place of the list, and the one after the last, fits the middle of a slot
pub place-fits : (n : ℕ) → n ≤ 1025 → Fits 1 n 0
place-fits n h = at_place n (lt_of_le_of_lt h (lit< tt))

-- a key of region 00 that belongs is a listed procedure's
pub belongs-listed : {s : Store} {p e : ℕ} → Body s → Fits 0 p e → Belongs s (slot 0 p e) → Listed s p
unfolding address_slot index_slot count_slot word_slot length_slot place_slot kernel_address_slot current_slot entry_slot
belongs-listed {s} {p} {e} b f belongs = go belongs refl
  where
    mine : {q e' : ℕ} → e' < 2 ^ 24 → Listed s q → slot 0 q e' ≡ slot 0 p e → Listed s p
    mine {q} {e'} h l z = rw (← slot-middle (in_procedure q (listed-fits b l) e' h) f z) l

    other-region : {r m e' : ℕ} → Fits r m e' → 1 ≤ r → slot r m e' ≡ slot 0 p e → Listed s p
    other-region g h z = absurd (regions-apart g f (λ w. omega arith) z)

    go : {k : ℕ} → Belongs s k → k ≡ slot 0 p e → Listed s p
    go (address l) = mine zero-end l
    go (index l) = mine one_end l
    go (count l kind) = mine (ending-fits (number kind) 0 0 (number_small kind) (omega arith) (omega arith)) l
    go (capability_word l kind i w first last word) =
        let few = rw l.here at ((b.places l.place l.in_list).counts kind) in
        mine (ending-fits (number kind) i w (number_small kind) (omega arith) (omega (arith, word_count-small kind))) l
    go list_length_here = other-region (fixed 1 (omega arith)) (omega arith)
    go (place n i) = other-region (place-fits n (omega arith)) (omega arith)
    go kernel_address_here = other-region (fixed 2 (omega arith)) (omega arith)
    go current_here = other-region (fixed 3 (omega arith)) (omega arith)
    go entry_here = other-region (fixed 4 (omega arith)) (omega arith)

-- a place that belongs stands in the list
pub belongs-place : {s : Store} {n : ℕ} → Body s → Fits 1 n 0 → 1 ≤ n → Belongs s (place_slot n) → InList s n
unfolding address_slot index_slot count_slot word_slot length_slot place_slot kernel_address_slot current_slot entry_slot
belongs-place {s} {n} b f first belongs = go belongs refl
  where
    other-region : {r m e : ℕ} → Fits r m e → (r ≡ 1 → ⊥) → slot r m e ≡ slot 1 n 0 → InList s n
    other-region g h z = absurd (regions-apart g f h z)

    owned : {q e : ℕ} → e < 2 ^ 24 → Listed s q → slot 0 q e ≡ slot 1 n 0 → InList s n
    owned {q} {e} h l = other-region (in_procedure q (listed-fits b l) e h) (λ z. omega arith)

    go : {k : ℕ} → Belongs s k → k ≡ slot 1 n 0 → InList s n
    go (address l) = owned zero-end l
    go (index l) = owned one_end l
    go (count l kind) = owned (ending-fits (number kind) 0 0 (number_small kind) (omega arith) (omega arith)) l
    go (capability_word l kind i w first last word) =
        let few = rw l.here at ((b.places l.place l.in_list).counts kind) in
        owned (ending-fits (number kind) i w (number_small kind) (omega arith) (omega (arith, word_count-small kind))) l
    go list_length_here = λ z. absurd (omega (arith, slot-middle (fixed 1 (omega arith)) f z))
    go (place m i) = λ z. rw (← slot-middle (place-fits m (omega arith)) f z) i
    go kernel_address_here = other-region (fixed 2 (omega arith)) (λ z. omega arith)
    go current_here = other-region (fixed 3 (omega arith)) (λ z. omega arith)
    go entry_here = other-region (fixed 4 (omega arith)) (λ z. omega arith)

-- A place of the list of s' that came from s: it holds a key that stood in the old list, whose procedure has what it had.
pub record Came (s s' : Store) (n : ℕ) : Type 0 where
  pub was : ℕ
  pub in_old : InList s was
  pub same_key : key_at s' n ≡ key_at s was
  pub agrees : Agree s s' (key_at s was)
  pub new_index : index_of s' (key_at s was) ≡ n

pub came-sound : {s s' : Store} {n : ℕ} → Sound s → Came s s' n → PlaceSound s' n
came-sound {s} {s'} {n} h c = carried s s' c.was n (place_sound_of s h c.was c.in_old) c.same_key c.agrees c.new_index

pub came-agrees : {s s' : Store} {p : ℕ} → (l : Listed s' p) → Came s s' l.place → Agree s s' p
came-agrees l c = rw (sym c.same_key ∙ l.here) at c.agrees

pub came-kept : {s s' : Store} {p : ℕ} → Sound s → (l : Listed s' p) → Came s s' l.place → Kept s s' p
came-kept {s} {s'} {p} h l c =
    same_from s s' p (record { place = c.was; in_list = c.in_old; here = sym c.same_key ∙ l.here })
    (place_sound_of s h c.was c.in_old) (came-agrees l c)

-- A key that belongs to s belongs to s', if the procedure or the place that it is a slot of stays in the list.
pub belongs-carried : {s s' : Store} → ((n : ℕ) → InList s n → PlaceSound s n)
    → ((p : ℕ) → Listed s p → Listed s' p → Agree s s' p)
    → (k : ℕ) → ((p e : ℕ) → e < 2 ^ 24 → k ≡ slot 0 p e → Listed s p → Listed s' p)
    → ((n : ℕ) → k ≡ place_slot n → InList s n → InList s' n)
    → Belongs s k → Belongs s' k
unfolding address_slot index_slot count_slot word_slot
belongs-carried places agrees k listed in_list (address {p} l) = address (listed p (ending 0 0 0) zero-end refl l)
belongs-carried places agrees k listed in_list (index {p} l) = index (listed p (ending 0 0 1) one_end refl l)
belongs-carried places agrees k listed in_list (count {p} l kind) =
    count (listed p (ending (number kind) 0 0) (ending-fits (number kind) 0 0 (number_small kind) (omega arith) (omega arith)) refl l) kind
belongs-carried {s} {s'} places agrees k listed in_list (capability_word {p} l kind i w first last word) =
    let few : count_of s p kind ≤ 255 = rw (← l.here) ((places l.place l.in_list).counts kind) in
    let fits = ending-fits (number kind) i w (number_small kind) (omega arith) (omega (arith, word_count-small kind)) in
    let l' = listed p (ending (number kind) i w) fits refl l in
    capability_word l' kind i w first (rw (count-agrees s s' p (agrees p l l') kind) last) word
belongs-carried places agrees k listed in_list list_length_here = list_length_here
belongs-carried places agrees k listed in_list (place n i) = place n (in_list n refl i)
belongs-carried places agrees k listed in_list kernel_address_here = kernel_address_here
belongs-carried places agrees k listed in_list current_here = current_here
belongs-carried places agrees k listed in_list entry_here = entry_here
