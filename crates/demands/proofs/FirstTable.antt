-- A set-up that succeeds leaves a good table: its row has judged the key and the addresses, and that the table has room.
-- That the store it writes is sound, and consists of words, is shown in `SetUp`.
use Prim.Native.Nat.{ℕ}
use mathlib.Core.Path.{◌≡◌, sym}
use mathlib.Core.Bool.{true, false, true≢false, not}
use lib.ListN.{length}
use borrow.Author.Tests.{eqb-true, ltb-false}
use Rattle.rules.specs.Words.{key_bytes, address_bytes, Bytes, AllBytes, num}
use Rattle.rules.specs.Table.{bytes, room, length_fits}
use Rattle.rules.specs.Sound.{IsKey, IsAddress}
use Rattle.rules.specs.Answers.{ed, ef, e4, e7, fields, succeeds, ◌⇒◌, outcome}
use Rattle.rules.specs.Calls.{wrong_bytes, is_zero, no_room, fresh, set_up_row, set_up}
use Rattle.demands.specs.Kernels.{setting_up, LentBytes}
use Rattle.laws.proofs.Numbers.{non_zero}
use Rattle.laws.proofs.Words.{num-fits}
use Rattle.laws.proofs.Rows.{member, passed-not, judge-cases}
use Rattle.laws.proofs.TableDecides.{GoodTable, whole-records, at-most-1024, written-good}
use Rattle.demands.proofs.SetUp.{Given, fresh-ascends, fresh-sound, fresh-sized}

-- what the checks of a key and of an address say, once passed
right-bytes : (n : ℕ) (bs : Bytes) → wrong_bytes n bs ≡ false → length bs ≡ n
unfolding wrong_bytes
right-bytes n bs q = eqb-true _ _ (passed-not q)

is-key : (bs : Bytes) → AllBytes bs → wrong_bytes key_bytes bs ≡ false → is_zero (num bs) ≡ false → IsKey (num bs)
unfolding is_zero
is-key bs v l z = record { non_zero = non_zero (num bs) z; fits = num-fits key_bytes bs v (right-bytes key_bytes bs l) }

is_address : (bs : Bytes) → AllBytes bs → wrong_bytes address_bytes bs ≡ false → is_zero (num bs) ≡ false → IsAddress (num bs)
unfolding is_zero
is_address bs v l z = record { non_zero = non_zero (num bs) z; fits = num-fits address_bytes bs v (right-bytes address_bytes bs l) }

-- the table that the first store is written to
fresh-good : (t : Bytes) {k a ka : ℕ} → Given k a ka → length_fits t ≡ true → no_room (room t) (fresh k a ka) ≡ false
    → GoodTable (bytes (length t) (fresh k a ka))
unfolding no_room
fresh-good t {k} {a} {ka} given fits enough =
    written-good t (fresh k a ka) (whole-records t fits)
    (record {
      ascending = fresh-ascends given;
      fits = ltb-false _ _ enough;
      room = at-most-1024 t fits;
      sound = fresh-sound given;
    })
    (fresh-sized given)

pub set_up-good : (t k a ka : Bytes) → LentBytes (setting_up k a ka) → succeeds (set_up t k a ka).answer ≡ true → GoodTable (set_up t k a ka).table
unfolding set_up set_up_row outcome succeeds fields
set_up-good t k a ka lent =
    judge-cases (λ r. succeeds (outcome t r).answer ≡ true → GoodTable (outcome t r).table) _ _
    (λ check i e h. absurd (true≢false (sym h)))
    (λ ps h. fresh-good t
    (record {
      is_key = is-key k lent.0
          (ps (wrong_bytes key_bytes k ⇒ ed) (search member depth 12))
          (ps (is_zero (num k) ⇒ e4) (search member depth 12));
      is_address = is_address a lent.1
          (ps (wrong_bytes address_bytes a ⇒ ed) (search member depth 12))
          (ps (is_zero (num a) ⇒ e4) (search member depth 12));
      kernel_fits = is_address ka lent.2
          (ps (wrong_bytes address_bytes ka ⇒ ed) (search member depth 12))
          (ps (is_zero (num ka) ⇒ e4) (search member depth 12));
    })
    (passed-not (ps (not (length_fits t) ⇒ ef) (search member depth 12)))
    (ps (no_room (room t) (fresh (num k) (num a) (num ka)) ⇒ e7) (search member depth 12)))
