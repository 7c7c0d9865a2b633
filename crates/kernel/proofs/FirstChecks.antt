-- What every call judges first: how many bytes it was lent, and whether the table is sound.
use Rattle.std.proofs.Common.{ℕ, ◌≡◌, ap, Result, Ok, Err, true, false, not, length, eq-eqb, ne_eqb}
use Rattle.rules.specs.Answers.{ef, code_number, Outcome}
use Rattle.rules.specs.Words.{Bytes}
use Rattle.rules.specs.Table.{store, record_form}
use Rattle.rules.specs.Sound.{sound_table}
use Rattle.rules.specs.Calls.{wrong_bytes}
use Rattle.rules.specs.Source.{refused_reply, Reply}
use Rattle.soundness.specs.Soundness.{soundness_of}
use Rattle.rules.specs.declared.Refusal.{Refusal as Code}
use Rattle.results.specs.Results.{Gives}
use Rattle.soundness.proofs.Whole.{sound-form, sound-table, sound-count, unsound-table, unsound-code}

module _ (n : ℕ) (bs : Bytes) where
  pub wrong-bytes : (length bs ≡ n → ⊥) → wrong_bytes n bs ≡ true
  unfolding wrong_bytes
  wrong-bytes h = ap not (ne_eqb (length bs) n h)

  pub right-bytes : length bs ≡ n → wrong_bytes n bs ≡ false
  unfolding wrong_bytes
  right-bytes h = ap not (eq-eqb (length bs) n h)

module _ (t : Bytes) {r : Result ℕ Code} (e : r ≡ soundness_of t) where
  module _ {code : Code} (h : r ≡ Err code) where
    pub not_sound : not (sound_table t) ≡ true
    not_sound = ap not (unsound-table t e h)

    pub its-code : code ≡ record { 0 = code_number ef }
    its-code = unsound-code t e h

  module _ {n : ℕ} (h : r ≡ Ok n) where
    pub is-sound : not (sound_table t) ≡ false
    is-sound = ap not (sound-table t e h)

    pub sound : sound_table t ≡ true
    sound = sound-table t e h

    -- so what was lent is a table of the record form, with that many records
    pub is-form : record_form t ≡ true
    is-form = sound-form t sound

    pub is-count : n ≡ length (store t)
    is-count = sound-count t e h

-- a call that is refused since the table is not sound, where its row answers 66 ef
pub unsound-refused : (t : Bytes) {r : Result ℕ Code} → r ≡ soundness_of t → {code : Code} → r ≡ Err code
    → {o : Outcome} {reply : Reply} {t' : Bytes} → reply ≡ Err code
    → (not (sound_table t) ≡ true → Gives o (refused_reply (code_number ef)) t') → Gives o reply t'
unsound-refused t e h is gives = rw (is, its-code t e h) (gives (not_sound t e h))
