-- The room that a registration needs: a key that is not listed has no record in a sound table, so each record of the new
-- procedure whose value is not zero is one more. The sum that the code compares is then the length of the store afterwards.
use Rattle.std.proofs.Common.{ℕ, suc, ◌+◌, ◌/◌, ◌^◌, ◌≤◌, ◌<◌, arith, ◌≡◌, true, false, ltb, length, Ok}
use borrow.Author.Tests.{leb-false, lt-ltb, le-ltb}
use Rattle.rules.specs.Words.{Bytes, word_bytes, key_bytes, address_bytes, num}
use Rattle.rules.specs.Table.{record_size, Store, room, store, puts}
use Rattle.rules.specs.Capabilities.{kinds}
use Rattle.rules.specs.Procedures.{listed}
use Rattle.rules.specs.Sound.{IsKey, IsAddress, sound_table}
use Rattle.rules.specs.Messages.{key_too_long, address_too_long, key_word, address_word, requests}
use Rattle.rules.specs.Answers.{e7, code_number, registered, outcome}
use Rattle.rules.specs.Calls.{no_room, kind_records, after_register, register_row}
use Rattle.rules.specs.Source.{refused_reply, reply_of, Reply}
use Rattle.rules.specs.declared.Success.TheVariants.{Registered}
use Rattle.laws.proofs.TableDecides.{sound_table-good}
use Rattle.laws.proofs.TableRecords.{formed}
use Rattle.laws.proofs.SeriesRequests.{requests-storable}
use Rattle.words.specs.Words.{Holds}
use Rattle.storing.specs.Storing.{Became}
use Rattle.storing.specs.declared.table.Table.{Table}
use Rattle.counting.specs.Counting.{non_zero, Needed}
use Rattle.appending.specs.Appending.{place_records, NoneOf, AppendNeeds}
use Rattle.appending.proofs.Added.{registered-length, place-length, none_of}
use Rattle.results.specs.Results.{Leaves}
use Rattle.results.proofs.Rows.{refusal, leaves, becomes, refuses, passes, ends}
use Rattle.registering.specs.Registering.{Judgeable, Appendable, on_room}

module _ {d : Bytes} (j : Judgeable d) where
  is-key : IsKey (key_word d)
  unfolding key_too_long
  is-key = record { non_zero = j.key_non_zero; fits = leb-false (256 ^ key_bytes) (key_word d) j.names.key_fits }

  is_address : IsAddress (address_word d)
  unfolding address_too_long
  is_address = record { non_zero = j.address_non_zero; fits = leb-false (256 ^ address_bytes) (address_word d) j.names.address_fits }

module _ (table : Table) (g : sound_table table.bytes.now ≡ true) {places : ℕ} (d : Bytes) (a : Appendable table.bytes.now places d) where
  abbrev t : Bytes
  t = table.bytes.now

  abbrev used : ℕ
  used = table.used

  -- the store afterwards
  abbrev after : Store
  after = after_register (store t) (key_word d) (address_word d) (requests d)

  abbrev own : ℕ
  own = non_zero (kind_records (key_word d) (requests d) kinds)

  after-length : length after ≡ used + 3 + own
  after-length =
      let longer =
      registered-length (sound_table-good t g).good (is-key a.judged) (is_address a.judged)
      (requests-storable d a.few) a.unlisted in
      omega (arith, longer, table.count)

  place-fits : length (puts (store t) (place_records (suc places) (key_word d))) ≡ used + 1
  place-fits =
      let longer =
      place-length (sound_table-good t g).good (is-key a.judged) (is_address a.judged)
      (requests-storable d a.few) a.unlisted in
      rw a.all (omega (arith, longer, table.count))

  none : NoneOf (key_word d) (store t)
  none =
      none_of (sound_table-good t g).good (is-key a.judged) (is_address a.judged) (requests-storable d a.few) a.unlisted

  -- as the code counts them
  module _ {n : ℕ} (q : Needed d n) where
    needed : length after ≡ used + 3 + n
    needed = omega (arith, after-length, q.is (key_word d))

    -- the sum is small
    pub needed-small : used + 3 + n ≤ 70000
    needed-small =
        let form = formed t table.form in
        omega (arith, form.few, form.fits, table.count, q.small, a.judged.names.not_longer)

    pub register-no-room : length t / record_size < used + 3 + n → (m : ℕ)
        → Leaves (outcome t (on_room (room t) (store t) d m)) (refused_reply (code_number e7)) table table
    unfolding register_row no_room room
    register-no-room h m =
        let full : ltb (length t / record_size) (length after) ≡ true = lt-ltb (length t / record_size) (length after) (omega (arith, needed, h)) in
        leaves table (rw (refuses full) (refusal t e7))

    module _ (h : used + 3 + n ≤ length t / record_size) {key address : Bytes} (k : Holds key_bytes key (key_word d))
        (v : Holds word_bytes address (address_word d)) where
      pub append-needs : AppendNeeds t places (num key) (num address) d n
      unfolding room
      append-needs =
          record {
            listed = a.all;
            short = a.short;
            is_key = rw k.number (is-key a.judged);
            address_non_zero = rw v.number a.judged.address_non_zero;
            well_formed = a.judged.well_formed;
            few = a.few;
            none = rw k.number none;
            counted = q;
            fits = rw k.number (omega (arith, place-fits, h));
          }

      pub register-done : {later : Table} → Became table later (after_register (store t) (num key) (num address) (requests d))
          → (m : ℕ) → Leaves (outcome t (on_room (room t) (store t) d m)) (Ok (Registered m)) table later
      unfolding register_row no_room room reply_of
      register-done s m =
          let space : ltb (length t / record_size) (length after) ≡ false = le-ltb (length t / record_size) (length after) (omega (arith, needed, h)) in
          rw (passes space, ends) (becomes (registered m) (rw (k.number, v.number) at s))
