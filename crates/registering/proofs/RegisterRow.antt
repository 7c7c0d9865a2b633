-- Register's row up to the room: each return of the code is a place in it.
use Rattle.std.proofs.Common.{ℕ, ◌≤◌, arith, ◌≡◌, refl, sym, ap, ◌∙◌, Bool, true, false, not, eqb, eq-eqb, ne_eqb, Some, None}
use Rattle.rules.specs.Words.{Bytes, word_bytes, key_bytes, num}
use Rattle.rules.specs.Table.{room, store}
use Rattle.rules.specs.Capabilities.{register, number}
use Rattle.rules.specs.Procedures.{list_length, listed}
use Rattle.rules.specs.Sound.{all_of}
use Rattle.rules.specs.Messages.{series_of, malformed, key_word, address_word, requests}
use Rattle.rules.specs.Validation.{passes as code_passes}
use Rattle.rules.specs.Answers.{e4, x33, e9, e5, x77, e1, e8, code_number, ◌then◌, outcome}
use Rattle.rules.specs.Calls.{is_zero, greatest_list, contained, tests, too_many, register_row, register_effect}
use Rattle.rules.specs.Source.{refused_reply, Reply}
use Rattle.laws.proofs.Numbers.{non_zero}
use Rattle.words.specs.Words.{Holds}
use Rattle.storing.specs.declared.table.Table.{Table}
use Rattle.grants.specs.Grants.{Granted}
use Rattle.results.specs.Results.{Leaves}
use Rattle.results.proofs.Rows.{refusal, leaves, refuses, passes, denied}
use Rattle.acting.specs.Acting.{ActsOn, Permits}
use Rattle.acting.proofs.Permission.{acts-on-key, listed-judged, not-permitted, permitted}
use Rattle.registering.specs.Registering.{NamesProcedure, Judgeable, Appendable, on_room, on_requests}

-- the key word that a Register acts on
pub acts-on-procedure : {d x : Bytes} → NamesProcedure d → Holds word_bytes x (key_word d) → ActsOn (number register) d x
acts-on-procedure n h = acts-on-key register refl (record { long = omega (arith, n.long); fits = n.key_fits }) h

-- from the requests on
module _ (table : Table) (d : Bytes) {m : Bool} (e : m ≡ too_many (requests d)) where
  abbrev t : Bytes
  t = table.bytes.now

  abbrev rest_row : Reply → Table → Type 0
  rest_row r after = Leaves (outcome t (on_requests (room t) (store t) d)) r table after

  pub register-too-many : m ≡ true → rest_row (refused_reply (code_number x77)) table
  unfolding register_row
  register-too-many q = leaves table (rw (refuses (sym e ∙ q)) (refusal t x77))

  module _ (few : m ≡ false) where
    pub register-not-granted : Granted (store t) (requests d) None → rest_row (refused_reply (code_number x33)) table
    unfolding register_row
    register-not-granted denied = leaves table (rw (passes (sym e ∙ few), refuses (ap not denied)) (refusal t x33))

    module _ {n : ℕ} (granted : Granted (store t) (requests d) (Some n)) {key : Bytes} (k : Holds key_bytes key (key_word d)) {l : Bool}
        (h : l ≡ listed (store t) (num key)) where
      pub register-listed : l ≡ true → rest_row (refused_reply (code_number e1)) table
      unfolding register_row
      register-listed q =
          leaves table (rw (passes (sym e ∙ few), passes (ap not granted.0), refuses (listed-judged t k h q)) (refusal t e1))

      module _ (unlisted : l ≡ false) {places : ℕ} (all : places ≡ list_length (store t)) where
        pub register-list-full : places ≡ greatest_list → rest_row (refused_reply (code_number e8)) table
        unfolding register_row
        register-list-full q =
            let full = eq-eqb (list_length (store t)) greatest_list (sym all ∙ q) in
            leaves table (rw (passes (sym e ∙ few), passes (ap not granted.0), passes (listed-judged t k h unlisted), refuses full) (refusal t e8))

        pub appendable : Judgeable d → places ≤ greatest_list → Appendable t places d
        appendable j short =
            record { judged = j; few = sym e ∙ few; all = all; short = short; unlisted = listed-judged t k h unlisted }

        pub register-rest : (places ≡ greatest_list → ⊥) → {r : Reply} {after : Table}
            → Leaves (outcome t (on_room (room t) (store t) d n)) r table after → rest_row r after
        unfolding register_row
        register-rest q {r} {after} f =
            let space = ne_eqb (list_length (store t)) greatest_list (λ z. q (all ∙ z)) in
            rw (passes (sym e ∙ few), passes (ap not granted.0), passes (listed-judged t k h unlisted), passes space) (rw granted.1 at f)

-- before the requests
module _ (table : Table) (d code mask : Bytes) {x : Bytes} (named : Holds word_bytes x (key_word d)) {i : Bool} (e : i ≡ eqb (num x) 0) where
  abbrev lent : Bytes
  lent = table.bytes.now

  abbrev row : Reply → Table → Type 0
  row r after =
      Leaves (outcome lent (register_row (room lent) (store lent) d code mask then register_effect (store lent) d (tests (store lent) (requests d)))) r table after

  zero-key : {b : Bool} → i ≡ b → is_zero (key_word d) ≡ b
  unfolding is_zero
  zero-key q = ap (λ (y : ℕ). eqb y 0) (sym named.number) ∙ sym e ∙ q

  pub register-zero-key : i ≡ true → row (refused_reply (code_number e4)) table
  unfolding register_row
  register-zero-key q = leaves table (rw (refuses (zero-key q)) (refusal lent e4))

  module _ (key : i ≡ false) {y : Bytes} (address : Holds word_bytes y (address_word d)) {j : Bool} (g : j ≡ eqb (num y) 0) where
    zero-address : {b : Bool} → j ≡ b → is_zero (address_word d) ≡ b
    unfolding is_zero
    zero-address q = ap (λ (z : ℕ). eqb z 0) (sym address.number) ∙ sym g ∙ q

    pub register-zero-address : j ≡ true → row (refused_reply (code_number e4)) table
    unfolding register_row
    register-zero-address q = leaves table (rw (passes (zero-key key), refuses (zero-address q)) (refusal lent e4))

    module _ (present : j ≡ false) {p : Bool}
        (h : Permits lent d (number register) (num x) p) where
      pub register-not-covered : p ≡ false → row (refused_reply (code_number x33)) table
      unfolding register_row
      register-not-covered q =
          leaves table
          (rw (passes (zero-key key), passes (zero-address present), not-permitted lent d register (key_word d) named h q) (refusal lent x33))

      module _ (may : p ≡ true) {c : Bool} (v : c ≡ code_passes mask code) where
        code_is : {b : Bool} → c ≡ b → not (code_passes mask code) ≡ not b
        code_is q = ap not (sym v ∙ q)

        pub register-code-fails : c ≡ false → row (refused_reply (code_number e9)) table
        unfolding register_row
        register-code-fails q =
            leaves table
            (rw (passes (zero-key key), passes (zero-address present), permitted lent d register (key_word d) named h may, refuses (code_is q))
            (refusal lent e9))

        module _ (valid : c ≡ true) {w : Bool} (s : w ≡ not (malformed (series_of d))) where
          pub register-malformed : w ≡ false → row (refused_reply (code_number e5)) table
          unfolding register_row
          register-malformed q =
              leaves table
              (rw (
                passes (zero-key key),
                passes (zero-address present),
                permitted lent d register (key_word d) named h may,
                passes (code_is valid),
                refuses (denied s q),
              )
              (refusal lent e5))

          pub judgeable : NamesProcedure d → w ≡ true → Judgeable d
          unfolding is_zero series_of
          judgeable n q =
              record {
                names = n;
                key_non_zero = non_zero (key_word d) (zero-key key);
                address_non_zero = non_zero (address_word d) (zero-address present);
                well_formed = denied s q;
              }

          pub register-requests : w ≡ true → {r : Reply} {after : Table}
              → Leaves (outcome lent (on_requests (room lent) (store lent) d)) r table after → row r after
          unfolding register_row
          register-requests q f =
              rw (
                passes (zero-key key),
                passes (zero-address present),
                permitted lent d register (key_word d) named h may,
                passes (code_is valid),
                passes (denied s q),
              )
              f
