-- What a slot's 32 bytes stand for, and a listed key by its index and what stands at that place.
-- A number that `small` gives is compared with one below its limit as the whole word would be.
use Rattle.std.proofs.Common.{ℕ, ◌^◌, ◌≤◌, ◌<◌, min, arith, ◌≡◌, sym, ap, ◌∙◌, Bool, true, false, eqb, le-leb}
use borrow.Author.Tests.{lt-leb}
use Rattle.rules.specs.Words.{Bytes, num}
use Rattle.rules.specs.Table.{Store, get, store}
use Rattle.rules.specs.KernelStorage.{count_slot, index_slot, place_slot}
use Rattle.rules.specs.Capabilities.{Kind, number}
use Rattle.rules.specs.Procedures.{list_length, key_at, index_of, count_of, listed}
use Rattle.rules.specs.Sound.{is_key}
use Rattle.laws.proofs.Bools.{tests-true}
use Rattle.laws.proofs.TableRecords.{formed}
use Rattle.words.specs.Words.{small_limit}
use Rattle.slots.specs.Slots.{KeyOf}
use Rattle.holding.specs.Holding.{WordOf}
use Rattle.finding.specs.declared.Records.{Records}
use Rattle.key_words.specs.KeyWords.{KeyPart}
use Rattle.listing.specs.Listings.{Listing}
use Rattle.key_words.proofs.KeyWords.{key-number}

pub at_slot : (s : Store) {slot : ℕ} {key w : Bytes} → KeyOf slot key → WordOf (get s (num key)) w → num w ≡ get s slot
at_slot s k h = h.number ∙ ap (get s) k.number

-- what a slot holds, cut by `small`
pub small_at : (s : Store) {slot : ℕ} {key w : Bytes} → KeyOf slot key → WordOf (get s (num key)) w → {r : ℕ} → r ≡ min (num w) small_limit
    → r ≡ min (get s slot) small_limit
small_at s k h e = e ∙ ap (λ (x : ℕ). min x small_limit) (at_slot s k h)

-- how many capabilities of the type that n names a procedure holds
pub count-named : (s : Store) (p : ℕ) {n : ℕ} (kind : Kind) → number kind ≡ n → count_of s p kind ≡ get s (count_slot p n)
unfolding count_of
count-named s p kind q = rw q

-- a table has at most 1,024 records
pub few : (table : Records) → table.used ≤ 1024
few table = let f = formed table.bytes.now table.form in omega (arith, f.few, f.fits, table.count)

-- the test for a listed key, by what `small` gives for its index
module _ {table : Records} {places : ℕ} (l : Listing table places) (p : ℕ) {i : ℕ}
    (e : i ≡ min (get (store table.bytes.now) (index_slot p)) small_limit) where
  index : i ≡ min (index_of (store table.bytes.now) p) small_limit
  unfolding index_of
  index = e

  pub no_index : i < 1 → false ≡ listed (store table.bytes.now) p
  unfolding listed
  no_index h = rw (lt-leb 1 (index_of (store table.bytes.now) p) (omega (arith, index)))

  pub index-beyond : places < i → false ≡ listed (store table.bytes.now) p
  unfolding listed
  index-beyond h =
      let all = l.all in
      let some = le-leb 1 (index_of (store table.bytes.now) p) (omega (arith, index)) in
      let beyond = lt-leb (index_of (store table.bytes.now) p) (list_length (store table.bytes.now)) (omega (arith, index)) in
      rw (some, beyond)

  pub index-inside : 1 ≤ i → i ≤ places → {key w : Bytes} → KeyOf (place_slot i) key
      → WordOf (get (store table.bytes.now) (num key)) w
      → {r : Bool} → r ≡ eqb (num w) p → r ≡ listed (store table.bytes.now) p
  unfolding listed key_at
  index-inside h g k v q =
      let all = l.all in
      let short = few table in
      let here : index_of (store table.bytes.now) p ≡ i = omega (arith, index, l.short) in
      rw (here, le-leb 1 i h, le-leb i (list_length (store table.bytes.now)) (omega arith))
      (q ∙ ap (λ (x : ℕ). eqb x p) (at_slot (store table.bytes.now) k v))

-- a key in a word: the last 24 bytes stand for it
module _ {x : ℕ} {w : Bytes} (v : WordOf x w) {a : Bool} (e : a ≡ is_key (num w)) where
  pub word-key : a ≡ true → {part : Bytes} → KeyPart (num w) part → num part ≡ x
  unfolding is_key
  word-key q p =
      let key : is_key (num w) ≡ true = sym e ∙ q in
      let small : num w < 256 ^ 24 = search tests-true in
      key-number p small ∙ v.number
