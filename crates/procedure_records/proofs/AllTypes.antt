-- The loop over the types: the counts and capabilities of the types from an index on are left to store.
use Rattle.std.proofs.Common.{ℕ, zero, suc, ◌+◌, ◌≤◌, ◌<◌, arith, ◌≡◌, refl, sym, ap, ◌∙◌, List, [], ◌∷◌, ◌++◌, length, drop, false, get_or}
use Rattle.rules.specs.Words.{Bytes, num}
use Rattle.rules.specs.Table.{Record, ◌holds◌, put, puts, room, store}
use Rattle.rules.specs.KernelStorage.{count_slot}
use Rattle.rules.specs.Capabilities.{Kind, call, register, delete, set_entry, write, number, kinds}
use Rattle.rules.specs.declared.Kind.{Kind as Type_number}
use Rattle.rules.specs.Messages.{Request, series_at, requests, requested_of}
use Rattle.rules.specs.Calls.{capability_records, kind_records, too_many}
use Rattle.laws.proofs.SeriesRequests.{requests-storable}
use Rattle.words.specs.Words.{Holds}
use Rattle.slots.specs.Slots.{KeyOf}
use Rattle.storing.specs.Storing.{Became}
use Rattle.storing.specs.declared.table.Table.{Table}
use Rattle.requests.specs.Requests.{WellFormedFrom}
use Rattle.series.specs.Series.{requested_counts}
use Rattle.series.proofs.Counted.{requested-at}
use Rattle.capability_records.specs.CapabilityRecords.{KindNeeds, KindStored}
use Rattle.capability_records.proofs.Left.{Left, left-none, left-takes, left_after, left-ready, left-put}

pub record StoringKinds (before now : Table) (p : ℕ) (d : Bytes) (counts : List ℕ) (i : ℕ) : Type 0 where
  pub high : i ≤ 5
  pub well_formed : WellFormedFrom d series_at
  pub few : too_many (requests d) ≡ false
  pub counted : counts ≡ requested_counts (requests d)
  pub left : Left before now (kind_records p (requests d) (drop i kinds))
      (puts (store before.bytes.now) (kind_records p (requests d) kinds))

-- the type at an index of all of them, by its number
pub record TypeAt (i n : ℕ) : Type 0 where
  pub kind : Kind
  pub names : number kind ≡ n
  pub here : drop i kinds ≡ kind ∷ drop (i + 1) kinds

-- the source's list of them
abbrev types : List Type_number
types = record { 0 = 3 } ∷ record { 0 = 4 } ∷ record { 0 = 5 } ∷ record { 0 = 6 } ∷ record { 0 = 7 } ∷ []

pub type-at : (i : ℕ) → i < 5 → TypeAt i (get_or types i (record { 0 = 0 })).0
unfolding number
type-at zero h = record { kind = call; names = refl; here = refl }
type-at (suc zero) h = record { kind = register; names = refl; here = refl }
type-at (suc (suc zero)) h = record { kind = delete; names = refl; here = refl }
type-at (suc (suc (suc zero))) h = record { kind = set_entry; names = refl; here = refl }
type-at (suc (suc (suc (suc zero)))) h = record { kind = write; names = refl; here = refl }
type-at (suc (suc (suc (suc (suc i))))) h = absurd (omega arith)

-- the count of the type with number n, which stands at m, is stored next, and then its capabilities
module _ {before now : Table} {p : ℕ} {d : Bytes} {counts : List ℕ} {i n m : ℕ} {slot count : Bytes}
    (w : StoringKinds before now p d counts i) (h : i < 5) (this : TypeAt i n) (at : m ≡ n)
    (is : KeyOf (count_slot p n) slot) (value : Holds 32 count (get_or counts m 0)) where
  abbrev rs : List Request
  rs = requests d

  abbrev capabilities : List Record
  capabilities = capability_records p this.kind 1 (requested_of this.kind rs)

  abbrev later_kinds : List Record
  later_kinds = kind_records p rs (drop (i + 1) kinds)

  many : get_or counts m 0 ≡ length (requested_of this.kind rs)
  many =
      ap (λ (cs : List ℕ). get_or cs m 0) w.counted
      ∙ ap (λ (j : ℕ). get_or (requested_counts rs) j 0) (at ∙ sym this.names)
      ∙ requested-at rs this.kind

  split : kind_records p rs (drop i kinds) ≡ count_slot p n holds get_or counts m 0 ∷ (capabilities ++ later_kinds)
  unfolding kind_records
  split = ap (kind_records p rs) this.here ∙ rw (this.names, many)

  pub kinds-room : length (put (store now.bytes.now) (num slot) (num count)) ≤ room now.bytes.now
  kinds-room = left-ready w.left split is value

  module _ {counted : Table} (s : Became now counted (put (store now.bytes.now) (num slot) (num count))) where
    middle : Left before counted (capabilities ++ later_kinds) (puts (store before.bytes.now) (kind_records p rs kinds))
    middle = left-put w.left split is value s

    pub kinds-kind : KindNeeds counted.bytes.now p n (get_or counts m 0) d
    kinds-kind =
        record {
          kind = this.kind;
          names = this.names;
          well_formed = w.well_formed;
          counted = many;
          few = omega (arith, many, (requests-storable d w.few).few this.kind);
          takes = left-takes middle capabilities later_kinds refl;
        }

    pub kinds-turn : {later : Table} → KindStored counted later p n d → StoringKinds before later p d counts (i + 1)
    kinds-turn all =
        record {
          high = omega arith;
          well_formed = w.well_formed;
          few = w.few;
          counted = w.counted;
          left = left_after middle capabilities later_kinds refl (all this.kind this.names);
        }

pub kinds-end : {before now : Table} {p : ℕ} {d : Bytes} {counts : List ℕ} {i : ℕ} → StoringKinds before now p d counts i → 5 ≤ i
    → Became before now (puts (store before.bytes.now) (kind_records p (requests d) kinds))
unfolding kind_records
kinds-end {i = i} w h = let last : i ≡ 5 = omega (arith, w.high) in left-none (rw last at w.left)
