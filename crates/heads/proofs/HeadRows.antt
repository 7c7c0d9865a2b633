-- The two records that begin a procedure, test by test: parts of keys are quotients and remainders of their numbers, and the key at
-- the place that an index names is read behind the list length.
use Rattle.std.proofs.Common.{ℕ, suc, ◌+◌, ◌*◌, ◌/◌, ◌%◌, ◌^◌, ◌≤◌, ◌<◌, min, arith, ◌≡◌, sym, ap, ap₂, ◌∙◌, ◌≢◌, Bool, true, false, ◌&&◌, eqb, length, take, get_or, eqb-true, eq-eqb, ne_eqb, le-leb}
use borrow.Author.Tests.{eqb-false, lt-leb}
use Rattle.rules.specs.Words.{Bytes, AllBytes, word_bytes, num, word_at}
use Rattle.rules.specs.Table.{store}
use Rattle.rules.specs.Procedures.{list_length}
use Rattle.rules.specs.Sound.{is_address}
use Rattle.laws.proofs.Tests.{eqb_same}
use Rattle.laws.proofs.Numerals.{all-bytes}
use Rattle.laws.proofs.Parts.{num-take, num-byte}
use Rattle.words.specs.Words.{small_limit}
use Rattle.keys.specs.Keys.{MiddleOf}
use Rattle.moves.specs.Moves.{WordPart}
use Rattle.finding.specs.declared.Records.{Records}
use Rattle.walks.specs.Walks.{front_of, head_rows}
use Rattle.lists.specs.Lists.{record_at, Laid}
use Rattle.heads.specs.Heads.{named}
use Rattle.lists.proofs.LaidRows.{laid-small, place_at}

-- a key's parts
module _ (key : Bytes) (size : length key ≡ word_bytes) (fits : (i : ℕ) → get_or key i 0 < 256) where
  bytes : AllBytes key
  bytes = all-bytes key fits

  pub front_read : num (take 29 key) ≡ front_of (num key)
  unfolding front_of
  front_read = num-take key bytes 29 3 size

  pub most-read : num (take 31 key) ≡ num key / 256
  most-read = num-take key bytes 31 1 size

  pub last-read : get_or key 31 0 ≡ num key % 256
  last-read = num-byte key bytes 31 0 size ∙ omega arith

-- a key that ends with zeros, and the one behind it
module _ (k n : ℕ) {e : ℕ} (end : e ≡ k % 256 ^ 3) {a : Bool} (p : a ≡ eqb e 0) where
  pub not_zeros : a ≡ false → false ≡ (eqb (k % 256 ^ 3) 0 && eqb n (suc k))
  not_zeros q = rw (ne_eqb (k % 256 ^ 3) 0 (λ z. eqb-false e 0 (sym p ∙ q) (end ∙ z)))

  module _ (q : a ≡ true) {f g : ℕ} (most_n : f ≡ n / 256) (most_k : g ≡ k / 256) {b : Bool} (s : b ≡ eqb f g) where
    zeros : k % 256 ^ 3 ≡ 0
    zeros = sym end ∙ eqb-true e 0 (sym p ∙ q)

    pub not_behind : b ≡ false → false ≡ (eqb (k % 256 ^ 3) 0 && eqb n (suc k))
    not_behind z =
        let other : f ≢ g = eqb-false f g (sym s ∙ z) in
        rw (eq-eqb (k % 256 ^ 3) 0 zeros, ne_eqb n (suc k) (λ y. other (omega (arith, zeros))))

    pub behind-if : b ≡ true → {x : ℕ} → x ≡ n % 256 → eqb x 1 ≡ (eqb (k % 256 ^ 3) 0 && eqb n (suc k))
    behind-if z {x} last =
        let same : f ≡ g = eqb-true f g (sym s ∙ z) in
        rw (eq-eqb (k % 256 ^ 3) 0 zeros) (eqb_same x 1 n (suc k) (λ y. omega (arith, zeros)) (λ y. omega (arith, zeros)))

-- an index, cut by `small`, and the key at the place that it names
module _ {table : Records} {list places : ℕ} (l : Laid table list places) (x p : ℕ) {i : ℕ} (e : i ≡ min x small_limit) where
  pub no_index : i < 1 → false ≡ named table.bytes.now x p
  no_index h = rw (lt-leb 1 x (omega (arith, e)))

  pub place-if : 1 ≤ i → i ≤ places → {w : Bytes} → WordPart table.bytes.now (64 * (list + i) + 32) w → {r : Bool}
      → r ≡ eqb (num w) p → r ≡ named table.bytes.now x p
  place-if h g v q =
      let same : x ≡ i = omega (arith, e, laid-small l) in
      let here = place_at l i h g in
      rw (same, le-leb 1 i h, le-leb i (list_length (store table.bytes.now)) (omega (arith, l.all)), here)
      (q ∙ ap (λ (y : ℕ). eqb y p) v.number)

-- the whole: the keys, the address, the index
module _ (t : Bytes) (i : ℕ) {key next : Bytes} (k : WordPart t (64 * i) key) (n : WordPart t (64 * (i + 1)) next) {a : Bool}
    (e : a ≡ (eqb (num key % 256 ^ 3) 0 && eqb (num next) (suc (num key)))) where
  keys-are : {b : Bool} → a ≡ b → (eqb (word_at t (64 * i) % 256 ^ 3) 0 && eqb (word_at t (64 * (i + 1))) (suc (word_at t (64 * i)))) ≡ b
  keys-are q = ap₂ (λ (x y : ℕ). eqb (x % 256 ^ 3) 0 && eqb y (suc x)) (sym k.number) (sym n.number) ∙ sym e ∙ q

  pub no-head : a ≡ false → false ≡ head_rows (store t) (record_at t i) (record_at t (i + 1))
  unfolding head_rows
  no-head q = rw (keys-are q)

  module _ (q : a ≡ true) {value : Bytes} (v : WordPart t (64 * i + 32) value) {b : Bool} (f : b ≡ is_address (num value)) where
    address_is : {c : Bool} → b ≡ c → is_address (word_at t (64 * i + 32)) ≡ c
    address_is z = ap is_address (sym v.number) ∙ sym f ∙ z

    pub no_address : b ≡ false → false ≡ head_rows (store t) (record_at t i) (record_at t (i + 1))
    unfolding head_rows
    no_address z = rw (keys-are q, address_is z)

    pub index-if : b ≡ true → {index middle : Bytes} → WordPart t (64 * (i + 1) + 32) index → MiddleOf (num key) middle → {r : Bool}
        → r ≡ named t (num index) (num middle) → r ≡ head_rows (store t) (record_at t i) (record_at t (i + 1))
    unfolding head_rows
    index-if z w m g = rw (keys-are q, address_is z, ← w.number, ← k.number, ← m.number) g
