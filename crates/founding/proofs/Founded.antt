-- The first table is that of a registration in a table that holds the three fixed records: 13 records, for which there is room.
use Rattle.std.proofs.Common.{ℕ, ◌*◌, ◌/◌, ◌%◌, ◌-◌, ◌≤◌, arith, ◌≡◌, refl, sym, ap, ◌∙◌, [], true, eqb, leb, length, replicate, eqb-true, leb-true}
use lib.ListN.{length-replicate}
use Rattle.rules.specs.Words.{Bytes, num}
use Rattle.rules.specs.Table.{record_size, greatest_table, Store, record_bytes, bytes, put, puts, room, store, length_fits, record_form}
use Rattle.rules.specs.KernelStorage.{place_slot, length_slot}
use Rattle.rules.specs.Capabilities.{kinds, number}
use Rattle.rules.specs.Procedures.{list_length}
use Rattle.rules.specs.Messages.{same_kind, requested_of, requests}
use Rattle.rules.specs.Calls.{word_records, capability_records, kind_records, after_register, first_capabilities, fixed_records, fresh}
use Rattle.laws.proofs.Bools.{and_left, and_right}
use Rattle.laws.proofs.Fresh.{fixed-three, fixed-lists-none, fixed-none-of}
use Rattle.laws.proofs.Stores.{put-length}
use Rattle.laws.proofs.Tables.{store_bytes}
use Rattle.laws.proofs.TableRecords.{bytes-formed}
use Rattle.words.specs.Words.{Holds}
use Rattle.storing.specs.Storing.{Became}
use Rattle.storing.specs.declared.table.Table.{Table}
use Rattle.storing.proofs.Chain.{after, written}
use Rattle.counting.specs.Counting.{taken_by, non_zero, Needed}
use Rattle.appending.specs.Appending.{place_records, AppendNeeds}
use Rattle.founding.specs.Founding.{first_series, SetUpLent}
use Rattle.founding.proofs.FirstSeries.{first-requests, first-well-formed, first-few, first-long}

-- a table that was cleared
module _ {t : Bytes} {k a ka : ℕ} (l : SetUpLent t k a ka) where
  cleared-is : replicate (length t) 0 ≡ bytes (record_size * room t) []
  unfolding bytes record_bytes length_fits room
  cleared-is =
      let test = l.fits in
      let whole = eqb-true (length t % record_size) 0 (and_left _ _ test) in
      let all : length t ≡ record_size * (length t / record_size) - record_size * 0 = omega (arith, whole) in
      ap (λ (n : ℕ). replicate {A = ℕ} n 0) all

  module _ {t₀ : Bytes} (e : t₀ ≡ replicate (length t) 0) where
    none : store t₀ ≡ []
    none = ap store (e ∙ cleared-is) ∙ store_bytes (room t) [] tt tt (omega arith)

    size : length t₀ ≡ length t
    size = ap length e ∙ length-replicate (length t) 0

    pub cleared-form : record_form t₀ ≡ true
    unfolding length_fits room
    cleared-form =
        let few = leb-true (length t) greatest_table (and_right (eqb (length t % record_size) 0) (leb (length t) greatest_table) l.fits) in
        ap record_form (e ∙ cleared-is) ∙ bytes-formed (room t) [] tt tt (omega arith) (omega (arith, few))

    pub cleared-count : 0 ≡ length (store t₀)
    cleared-count = ap length (sym none)

  -- the records of the first procedure's capabilities that are not zero: five counts, and the second word of Write
  six : (p : ℕ) → non_zero (kind_records p first_capabilities kinds) ≡ 6
  unfolding non_zero taken_by kind_records capability_records word_records requested_of first_capabilities same_kind number
  six p = refl

  -- the fixed records are stored in it; the address is a word, and the series is the first one
  module _ {table fixed : Table} (e : table.bytes.now ≡ replicate (length t) 0) (b : Became table fixed (fixed_records k ka))
      {word : Bytes} (w : Holds 32 word a) {d : Bytes} (s : d ≡ first_series) where
    its-requests : requests d ≡ first_capabilities
    its-requests = ap requests s ∙ first-requests

    six-needed : Needed d 6
    six-needed = record { is = λ p. sym (rw its-requests (six p)); small = omega (arith, ap length s, first-long) }

    five : length (puts (fixed_records k ka) (place_records 1 k)) ≤ 5
    unfolding puts
    five =
        let base = fixed_records k ka in
        let three = fixed-three k a ka l.key l.address l.kernel_address in
        omega (arith, three, put-length base (place_slot 1) k, put-length (put base (place_slot 1) k) length_slot 1)

    pub first-needs : AppendNeeds fixed.bytes.now 0 k (num word) d 6
    unfolding room
    first-needs =
        record {
          listed = sym (ap list_length b.stored ∙ fixed-lists-none k a ka l.key l.address l.kernel_address);
          short = omega arith;
          is_key = l.key;
          address_non_zero = rw w.number l.address.non_zero;
          well_formed = rw s first-well-formed;
          few = rw its-requests first-few;
          none = rw b.stored (fixed-none-of k a ka l.key l.address l.kernel_address);
          counted = six-needed;
          fits = rw b.stored (omega (arith, five, b.long, size e, l.long));
        }

    pub founded : {later : Table} → Became fixed later (after_register (store fixed.bytes.now) k (num word) (requests d))
        → later.bytes.now ≡ bytes (length t) (fresh k a ka)
    unfolding fresh
    founded h =
        let long = size e in
        rw (long, w.number, its-requests) at (written (after b (λ (x : Store). after_register x k (num word) (requests d)) h))
