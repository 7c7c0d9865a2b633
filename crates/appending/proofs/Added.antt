-- How many records a registration adds, for a key that is not listed in a sound store. Of its records only the list's length is
-- present before; the others have different keys, and each whose value is not zero is one record more.
use Rattle.std.proofs.Common.{ℕ, suc, ◌+◌, ◌-◌, ◌^◌, arith, ◌≡◌, sym, ap, ◌∙◌, List, [], ◌∷◌, false, true≢false, length}
use Rattle.rules.specs.Table.{Store, Record, ◌holds◌, get, put, puts, Ascending}
use Rattle.rules.specs.KernelStorage.{slot, address_slot, length_slot, place_slot}
use Rattle.rules.specs.Capabilities.{kinds}
use Rattle.rules.specs.Procedures.{list_length, listed}
use Rattle.rules.specs.Sound.{IsKey, IsAddress}
use Rattle.rules.specs.Messages.{Request}
use Rattle.rules.specs.Calls.{kind_records, after_register}
use Rattle.laws.proofs.Stores.{put-ascending, get-put-other, put-no-longer, put-no-shorter, put-absent}
use Rattle.laws.proofs.Records.{Apart, rising-each}
use Rattle.laws.proofs.Procedures.{Good, body_of, listed_here, nothing_stored, nothing-behind}
use Rattle.laws.proofs.RegisterRecords.{Storable, Registration, slot-after}
use Rattle.laws.proofs.NewRecords.{procedure_records, own-rises, apart}
use Rattle.counting.specs.Counting.{non_zero}
use Rattle.counting.proofs.OneValue.{taken-one}
use Rattle.appending.specs.Appending.{place_records, NoneOf}
use Rattle.appending.proofs.Adding.{record_before-taken, Absent, still-absent, puts-added}

module _ {n : ℕ} {s : Store} {p a : ℕ} {rs : List Request} (g : Good n s) (is_key : IsKey p) (is_address : IsAddress a)
    (storable : Storable rs) (unlisted : listed s p ≡ false) where
  abbrev N : ℕ
  N = list_length s

  new : Registration s p a rs
  new =
      record {
        ascending = g.ascending;
        body = body_of g;
        is_key = is_key;
        is_address = is_address;
        storable = storable;
        unlisted = λ l. true≢false (sym (listed_here s g.sound p l) ∙ unlisted);
      }

  abbrev own : List Record
  own = procedure_records (suc N) p a rs

  -- it has no record before
  pub none_of : NoneOf p s
  none_of k from below =
      let here : k ≡ slot 0 p (k - address_slot p) = omega (arith, slot-after p (k - address_slot p)) in
      ap (get s) here ∙ nothing_stored g p is_key.fits new.unlisted (k - address_slot p) (omega arith)

  own-absent : Absent s own
  own-absent = rising-each (λ k. get s k ≡ 0) (address_slot p) (address_slot p + 2 ^ 24) own (own-rises new) none_of

  -- the key's place is one record more, the list's length is present, and then come records of the procedure
  behind : (more : List Record) → Apart (place_slot (suc N) holds p ∷ length_slot holds suc N ∷ more) → Absent s more
      → length (puts s (place_slot (suc N) holds p ∷ length_slot holds suc N ∷ more)) ≡ length s + 1 + non_zero more
  unfolding puts list_length
  behind more alone absent = omega (arith, first, kept, rest)
    where
      s₁ : Store
      s₁ = put s (place_slot (suc N)) p

      s₂ : Store
      s₂ = put s₁ length_slot (suc N)

      a₁ : Ascending 0 s₁
      a₁ = put-ascending 0 s (place_slot (suc N)) p (omega arith) g.ascending

      first : length s₁ ≡ length s + 1
      first =
          omega (
            arith,
            put-absent 0 s (place_slot (suc N)) p g.ascending (nothing-behind g),
            record_before-taken (place_slot (suc N)) p s,
            taken-one p is_key.non_zero,
          )

      present : get s₁ length_slot ≡ 0 → ⊥
      present z =
          let same = get-put-other s (place_slot (suc N)) p length_slot (λ q. alone.0.0 (sym q)) in
          omega (arith, z, same, g.sound.at_least_one)

      kept : length s₂ ≡ length s₁
      kept = omega (arith, put-no-longer 0 s₁ length_slot (suc N) a₁ present, put-no-shorter s₁ length_slot (suc N) (omega arith))

      rest : length (puts s₂ more) ≡ length s₂ + non_zero more
      rest =
          puts-added s₂ more (put-ascending 0 s₁ length_slot (suc N) (omega arith) a₁) alone.1.1
          (still-absent s₁ length_slot (suc N) more alone.1.0 (still-absent s (place_slot (suc N)) p more alone.0.1 absent))

  pub registered-length : length (after_register s p a rs) ≡ length s + 3 + non_zero (kind_records p rs kinds)
  unfolding after_register non_zero
  registered-length =
      omega (arith, behind own (apart new) own-absent, taken-one a is_address.non_zero, taken-one (suc N) (omega arith))

  -- the records of the list by themselves
  pub place-length : length (puts s (place_records (suc N) p)) ≡ length s + 1
  unfolding non_zero
  place-length = omega (arith, behind [] (((apart new).0.0, tt), (tt, tt)) tt)
