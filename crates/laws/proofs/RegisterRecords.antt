-- The records that Register stores for the new procedure's capabilities: a count and the capabilities of each type.
-- Their keys rise, so none is stored over another; a store that holds them all has what was requested; and each key belongs.
use Prim.Native.Nat.{ℕ, suc, ◌+◌, ◌*◌, ◌^◌, ◌≤◌}
use native.Mathlib.Omega.{arith}
use mathlib.Core.Path.{◌≡◌, refl}
use mathlib.Core.Logic.{inl, inr}
use mathlib.Core.List.{List, [], ◌∷◌}
use mathlib.Core.Bool.{true}
use lib.ListN.{length}
use Rattle.rules.specs.Words.{Every, OneOf}
use Rattle.rules.specs.Table.{Store, ◌holds◌, Ascending}
use Rattle.rules.specs.KernelStorage.{slot, ending, address_slot, count_slot, word_slot, kernel_mark}
use Rattle.rules.specs.Capabilities.{Kind, number, word_count, Capability, prefix_in_range}
use Rattle.rules.specs.Procedures.{count_of, words_from, capability, capabilities_from, held, Listed}
use Rattle.rules.specs.Sound.{IsKey, IsAddress, Belongs, count, capability_word}
use Rattle.rules.specs.Messages.{Request, requested_of}
use Rattle.rules.specs.Calls.{word_records, capability_records, kind_records}
use Rattle.laws.proofs.Lists.{every_append}
use Rattle.laws.proofs.KindFacts.{number_small, word_count-small, Climbs}
use Rattle.laws.proofs.Rows.{here, there}
use Rattle.laws.proofs.Records.{Stored, stored-left, stored-right, Rising, rising-append}
use Rattle.laws.proofs.Places.{Body}

-- a capability of the right number of words, with its prefix in range
pub record Proper (kind : Kind) (c : Capability) : Type 0 where
  pub words : length c ≡ word_count kind
  pub prefix_fits : prefix_in_range kind c ≡ true

-- requests that may be stored
pub record Storable (rs : List Request) : Type 0 where
  pub few : (kind : Kind) → length (requested_of kind rs) ≤ 255
  pub proper : (kind : Kind) → Every (Proper kind) (requested_of kind rs)

-- A registration of the procedure p with the address a, which requests rs, in the store s: what Register needs of them.
pub record Registration (s : Store) (p a : ℕ) (rs : List Request) : Type 0 where
  pub ascending : Ascending 0 s
  pub body : Body s
  pub is_key : IsKey p
  pub is_address : IsAddress a
  pub storable : Storable rs
  pub unlisted : Listed s p → ⊥

-- a type's count and capabilities are those requested
pub record Requested (t : Store) (p : ℕ) (rs : List Request) (kind : Kind) : Type 0 where
  pub counted : count_of t p kind ≡ length (requested_of kind rs)
  pub all : held t p kind ≡ requested_of kind rs

-- The slots of a procedure follow its address slot, each at the distance that its end says.
pub slot-after : (p e : ℕ) → slot 0 p e ≡ address_slot p + e
unfolding address_slot slot ending
slot-after p e = plus ((kernel_mark * 256 + 0) * 2 ^ 192 + p)
  where
    plus : (front : ℕ) → front * 2 ^ 24 + e ≡ front * 2 ^ 24 + ((0 * 256 + 0) * 256 + 0) + e
    plus front = omega arith

word_after : (p : ℕ) (kind : Kind) (i k : ℕ) → word_slot p (number kind) i k ≡ address_slot p + ((number kind * 256 + i) * 256 + k)
unfolding word_slot ending
word_after p kind i k = slot-after p (ending (number kind) i k)

-- The keys rise.
module _ (p : ℕ) where
  words-rise : (low high : ℕ) (kind : Kind) (i k : ℕ) (c : Capability) → low ≤ word_slot p (number kind) i k
      → word_slot p (number kind) i k + length c ≤ high → Rising low high (word_records p kind i k c)
  unfolding word_records
  words-rise low high kind i k [] from below = omega arith
  words-rise low high kind i k (w ∷ c) from below =
      let this = word_after p kind i k in
      let next = word_after p kind i (suc k) in
      (from, words-rise (suc (word_slot p (number kind) i k)) high kind i (suc k) c (omega arith) (omega arith))

  capabilities-rise : (low high : ℕ) (kind : Kind) (i : ℕ) (cs : List Capability) → Every (Proper kind) cs
      → low ≤ word_slot p (number kind) i 0 → word_slot p (number kind) i 0 + 256 * length cs ≤ high
      → Rising low high (capability_records p kind i cs)
  unfolding capability_records
  capabilities-rise low high kind i [] proper from below = omega arith
  capabilities-rise low high kind i (c ∷ cs) proper from below =
      let this = word_after p kind i 0 in
      let next = word_after p kind (suc i) 0 in
      let few = word_count-small kind in
      let middle = word_slot p (number kind) (suc i) 0 in
      rising-append low middle high (word_records p kind i 0 c) (capability_records p kind (suc i) cs)
      (words-rise low middle kind i 0 c from (omega (arith, proper.0.words)))
      (capabilities-rise middle high kind (suc i) cs proper.1 (omega arith) (omega arith))

  pub kinds-rise : (rs : List Request) → Storable rs → (low n : ℕ) (ks : List Kind) → Climbs n ks → n ≤ 256
      → low ≤ address_slot p + 65536 * n → Rising low (address_slot p + 2 ^ 24) (kind_records p rs ks)
  unfolding kind_records count_slot word_slot
  kinds-rise rs ok low n [] climb few from = omega arith
  kinds-rise rs ok low n (x ∷ ks) climb few from =
      let this = word_after p x 0 0 in
      let first = word_after p x 1 0 in
      let count = word_slot p (number x) 0 0 in
      let middle = address_slot p + 65536 * suc (number x) in (
        omega (arith, climb.0),
        rising-append (suc count) middle (address_slot p + 2 ^ 24) (capability_records p x 1 (requested_of x rs)) (kind_records p rs ks)
            (capabilities-rise (suc count) middle x 1 (requested_of x rs) (ok.proper x) (omega arith) (omega (arith, ok.few x)))
            (kinds-rise rs ok middle (suc (number x)) ks climb.1 (number_small x) (omega arith)),
      )

-- What is read of a store that holds the records.
module _ (t : Store) (p : ℕ) where
  words-read : (kind : Kind) (i k : ℕ) (c : Capability) → Stored t (word_records p kind i k c) → words_from t p kind i (length c) k ≡ c
  unfolding words_from word_records
  words-read kind i k [] stored = refl
  words-read kind i k (w ∷ c) stored =
      let this = stored (word_slot p (number kind) i k holds w) here in
      let rest = words-read kind i (suc k) c (λ r j. stored r (there j)) in
      cc

  capabilities-read : (kind : Kind) (i : ℕ) (cs : List Capability) → Every (Proper kind) cs
      → Stored t (capability_records p kind i cs) → capabilities_from t p kind (length cs) i ≡ cs
  unfolding capabilities_from capability_records capability
  capabilities-read kind i [] proper stored = refl
  capabilities-read kind i (c ∷ cs) proper stored =
      let this : capability t p kind i ≡ c = rw (← proper.0.words) (words-read kind i 0 c (stored-left t _ _ stored)) in
      let rest = capabilities-read kind (suc i) cs proper.1 (stored-right t (word_records p kind i 0 c) _ stored) in
      cc

  pub kinds-read : (rs : List Request) → Storable rs → (ks : List Kind) → Stored t (kind_records p rs ks)
      → (kind : Kind) → OneOf kind ks → Requested t p rs kind
  unfolding kind_records count_of held
  kinds-read rs ok [] stored kind i = elim i [ ]
  kinds-read rs ok (x ∷ ks) stored kind (inl q) =
      let counted : count_of t p x ≡ length (requested_of x rs) = stored _ here in
      let own = stored-left t _ _ (λ r j. stored r (there j)) in
      rw q (record { counted = counted; all = rw counted (capabilities-read x 1 (requested_of x rs) (ok.proper x) own) })
  kinds-read rs ok (x ∷ ks) stored kind (inr i) =
      let rest = stored-right t (capability_records p x 1 (requested_of x rs)) _ (λ r j. stored r (there j)) in
      kinds-read rs ok ks rest kind i

-- Each key belongs, once the procedure is listed and its counts are stored.
module _ (t : Store) (p : ℕ) (listed : Listed t p) where
  words-belong : (kind : Kind) (i k : ℕ) (c : Capability) → 1 ≤ i → i ≤ count_of t p kind → k + length c ≤ word_count kind
      → Every (λ r. Belongs t r.key) (word_records p kind i k c)
  unfolding word_records
  words-belong kind i k [] first last few = tt
  words-belong kind i k (w ∷ c) first last few =
      (capability_word listed kind i k first last (omega arith), words-belong kind i (suc k) c first last (omega arith))

  capabilities-belong : (kind : Kind) (i : ℕ) (cs : List Capability) → 1 ≤ i → i + length cs ≤ suc (count_of t p kind)
      → Every (Proper kind) cs → Every (λ r. Belongs t r.key) (capability_records p kind i cs)
  unfolding capability_records
  capabilities-belong kind i [] first last proper = tt
  capabilities-belong kind i (c ∷ cs) first last proper =
      every_append _ (word_records p kind i 0 c) (capability_records p kind (suc i) cs)
      (words-belong kind i 0 c first (omega arith) (omega (arith, proper.0.words)))
      (capabilities-belong kind (suc i) cs (omega arith) (omega arith) proper.1)

  pub kinds-belong : (rs : List Request) → Storable rs → ((kind : Kind) → Requested t p rs kind) → (ks : List Kind)
      → Every (λ r. Belongs t r.key) (kind_records p rs ks)
  unfolding kind_records
  kinds-belong rs ok requested [] = tt
  kinds-belong rs ok requested (x ∷ ks) = (
    count listed x,
    every_append _ (capability_records p x 1 (requested_of x rs)) (kind_records p rs ks)
        (capabilities-belong x 1 (requested_of x rs) (omega arith) (omega (arith, (requested x).counted)) (ok.proper x))
        (kinds-belong rs ok requested ks),
  )
