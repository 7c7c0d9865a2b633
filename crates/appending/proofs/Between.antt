-- The records of a new procedure, put where room was made for them. The table is cut where the first of them would stand: none of
-- the procedure's is there, so those behind the cut have higher keys. Up to the end of the room it is itself a table, of those before
-- the cut; the new records fill it, and what follows is as it was.
use Rattle.std.proofs.Common.{ℕ, zero, suc, ◌+◌, ◌*◌, ◌-◌, ◌^◌, ◌≤◌, ◌<◌, arith, ◌≡◌, sym, ap, ◌∙◌, List, [], ◌∷◌, ◌++◌, append_assoc, append-nil, true, length, take, drop, replicate, length-append, length-drop, take-append-drop, take_at, drop_at, length-take-le}
use Rattle.rules.specs.Words.{Bytes}
use Rattle.rules.specs.Table.{Record, Store, get, puts, room, store, record_form, record_bytes, bytes, Ascending, Sized}
use Rattle.rules.specs.KernelStorage.{address_slot}
use Rattle.rules.specs.Messages.{requests}
use Rattle.laws.proofs.Lists.{every_append, every_take, every_drop}
use Rattle.laws.proofs.Stores.{ascending-lower, puts-ascending}
use Rattle.laws.proofs.Records.{Rising, rising-each, rising-apart}
use Rattle.laws.proofs.Among.{puts-among, absent-before, none_between}
use Rattle.laws.proofs.NewRecords.{procedure-rises}
use Rattle.laws.proofs.SeriesRequests.{requests-storable}
use Rattle.laws.proofs.Tables.{length-bytes, store_bytes}
use Rattle.laws.proofs.TableRecords.{Formed, formed, records-append, bytes-formed}
use Rattle.finding.specs.Finding.{keys_below}
use Rattle.finding.proofs.Places.{below_length, Standing, present, absent, standing}
use Rattle.gaps.specs.Gaps.{opened}
use Rattle.storing.specs.declared.table.Table.{Table}
use Rattle.storing.proofs.Stored.{Stored}
use Rattle.storing.proofs.Cuts.{opened-is}
use Rattle.storing.proofs.Puts.{Words, held}
use Rattle.counting.specs.Counting.{non_zero}
use Rattle.counting.proofs.OneValue.{taken-one}
use Rattle.procedure_records.specs.ProcedureRecords.{procedure_records, ProcedureNeeds}
use Rattle.appending.specs.Appending.{NewNeeds}
use Rattle.appending.proofs.Room.{roomy-within}
use Rattle.appending.proofs.Adding.{Absent, puts-added}

-- an ascending store stays so when it ends earlier
ascending-take : (low : ℕ) (s : Store) (i : ℕ) → Ascending low s → Ascending low (take i s)
ascending-take low s zero a = tt
ascending-take low [] (suc i) a = tt
ascending-take low (r ∷ s) (suc i) a = (a.0, a.1, ascending-take (suc r.key) s i a.2)

module _ (table : Table) {place p a : ℕ} {d : Bytes} {n : ℕ} (need : NewNeeds table.bytes.now place p a d n)
    {i : ℕ} (at : i ≡ keys_below (store table.bytes.now) (address_slot p)) where
  abbrev t : Bytes
  t = table.bytes.now

  abbrev rs : List Record
  rs = procedure_records place p a (requests d)

  abbrev s : Store
  s = store t

  abbrev before : Store
  before = take i s

  abbrev behind : Store
  behind = drop i s

  f : Formed t
  f = formed t table.form

  -- the address and the index are not zero
  count : non_zero rs ≡ 2 + n
  unfolding non_zero
  count =
      omega (arith, taken-one a need.address_non_zero, taken-one place need.place_non_zero, need.counted.is p)

  rises : Rising (address_slot p) (address_slot p + 2 ^ 24) rs
  rises = procedure-rises place p a (requests d) (requests-storable d need.few)

  inside : i ≤ length s
  inside = omega (arith, at, below_length s (address_slot p))

  pub room_fits : (i ≤ table.used) × (64 * table.used + 64 * (2 + n) ≤ length t)
  room_fits = omega (arith, inside, table.count, need.fits, f.long)

  pub room_small : (i + (2 + n) ≤ 1024) × (table.used + (2 + n) ≤ 1024)
  room_small = omega (arith, room_fits, f.long, f.few)

  -- What stands before the cut, and what behind it.
  higher : Ascending (address_slot p + 2 ^ 24) behind
  higher = none_between (address_slot p) (address_slot p + 2 ^ 24) i s f.ascends (rw at (go (standing s (address_slot p) f.ascends))) need.none
    where
      go : Standing s (address_slot p) (keys_below s (address_slot p)) → Ascending (address_slot p) (drop (keys_below s (address_slot p)) s)
      go (present q) = absurd (omega (arith, q.some, need.none (address_slot p) (omega arith) (omega arith)))
      go (absent q) =
          ascending-lower (address_slot p) (suc (address_slot p)) (drop (keys_below s (address_slot p)) s) (omega arith) q.higher

  lower : Ascending 0 before
  lower = ascending-take 0 s i f.ascends

  sized : Sized before
  sized = every_take Words i s f.words

  many-before : length before ≡ i
  many-before = length-take-le i s inside

  none_before : Absent before rs
  none_before = rising-each (λ k. get before k ≡ 0) (address_slot p) (address_slot p + 2 ^ 24) rs rises none
    where
      none : (k : ℕ) → address_slot p ≤ k → k < address_slot p + 2 ^ 24 → get before k ≡ 0
      none k from below =
          absent-before 0 before behind k (rw (take-append-drop i s) f.ascends) (ap (λ (x : Store). get x k) (take-append-drop i s) ∙ need.none k from below)

  -- The store with all of them.
  whole : puts s rs ≡ puts before rs ++ behind
  whole =
      ap (λ (x : Store). puts x rs) (sym (take-append-drop i s))
      ∙ puts-among (address_slot p + 2 ^ 24) before behind rs
      (rising-each (λ k. k < address_slot p + 2 ^ 24) (address_slot p) (address_slot p + 2 ^ 24) rs rises (λ k from below. below)) higher

  added : length (puts before rs) ≡ i + (2 + n)
  added = omega (arith, puts-added before rs lower (rising-apart _ _ rs rises) none_before, many-before, count)

  many-all : length (puts s rs) ≡ table.used + (2 + n)
  many-all = ap length whole ∙ simp (length-append, length-drop) (omega (arith, added, inside, table.count))

  -- The table up to the end of the room, and what follows.
  abbrev size : ℕ
  size = 64 * (i + (2 + n))

  abbrev zeros : ℕ
  zeros = length t - 64 * length s - 64 * (2 + n)

  abbrev follows : Bytes
  follows = record_bytes behind ++ replicate zeros 0

  long-part : length (bytes size before) ≡ size
  long-part = length-bytes size before (omega (arith, many-before))

  module _ {t₁ : Bytes} (e : t₁ ≡ opened i (2 + n) table.used t) where
    cut : t₁ ≡ bytes size before ++ follows
    unfolding bytes
    cut =
        let gap : 64 * (2 + n) ≡ size - 64 * length before = omega (arith, many-before) in
        e ∙ ap (λ (x : ℕ). opened i (2 + n) x t) table.count
        ∙ opened-is t s (length t - 64 * length s) f.layout i (2 + n) inside (omega (arith, room_fits, table.count))
        ∙ ap (λ (x : ℕ). record_bytes before ++ (replicate x 0 ++ follows)) gap
        ∙ sym (append_assoc (record_bytes before) (replicate (size - 64 * length before) 0) follows)

    part-is : take size t₁ ≡ bytes size before
    part-is = rw cut (take_at (bytes size before) follows size long-part)

    follows_is : drop size t₁ ≡ follows
    follows_is = rw cut (drop_at (bytes size before) follows size long-part)

    pub part-within : size ≤ length t₁
    part-within = rw cut (simp length-append (omega (arith, long-part)))

    stored-part : store (take size t₁) ≡ before
    stored-part = ap store part-is ∙ store_bytes (i + (2 + n)) before lower sized (omega (arith, many-before))

    pub part-form : record_form (take size t₁) ≡ true
    part-form = ap record_form part-is ∙ bytes-formed (i + (2 + n)) before lower sized (omega (arith, many-before)) room_small.0

    pub part-count : i ≡ length (store (take size t₁))
    part-count = sym (ap length stored-part ∙ many-before)

    pub procedure-needs : ProcedureNeeds (take size t₁) place p a d
    unfolding room
    procedure-needs =
        record {
          well_formed = need.well_formed;
          few = need.few;
          takes = roomy-within _ _ rs (omega (arith, ap length part-is, long-part, ap length stored-part, many-before, count));
        }

    -- it is full of the records before the cut and the new ones
    module _ (full : Bytes) (long : length full ≡ length (take size t₁)) (form : record_form full ≡ true)
        (put : store full ≡ puts (store (take size t₁)) rs) where
      holds : store full ≡ puts before rs
      holds = put ∙ ap (λ (x : Store). puts x rs) stored-part

      filled : full ≡ record_bytes (puts before rs)
      unfolding bytes
      filled =
          let none : length full - 64 * length (puts before rs) ≡ 0 = omega (arith, long, ap length part-is, long-part, added) in
          (rw holds at (formed full form).layout) ∙ rw none (append-nil _)

      pub procedure-inserted : Stored (length t) (full ++ drop size t₁) (table.used + (2 + n)) (puts s rs)
      unfolding bytes
      procedure-inserted =
          held t (full ++ drop size t₁) (table.used + (2 + n)) (puts s rs) f (puts-ascending s rs f.ascends)
          (rw whole (every_append Words (puts before rs) behind (rw holds at (formed full form).words) (every_drop Words i s f.words)))
          (omega (arith, many-all, room_fits, f.long))
          (rw (filled, follows_is) (
          sym (append_assoc (record_bytes (puts before rs)) (record_bytes behind) (replicate zeros 0))
          ∙ rw (← records-append (puts before rs) behind, ← whole) (ap (λ (x : ℕ). record_bytes (puts s rs) ++ replicate {A = ℕ} x 0) last)))
          (sym many-all)
        where
          last : zeros ≡ length t - 64 * length (puts s rs)
          last = omega (arith, many-all, table.count)
