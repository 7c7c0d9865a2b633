-- Turn's row up to the table: each return of the code is a place in it.
use mathlib.Core.Path.{◌≡◌}
use mathlib.Core.Bool.{true, false, not}
use lib.ListN.{length}
use Rattle.rules.specs.Words.{Bytes, key_bytes}
use Rattle.rules.specs.Sound.{sound_table}
use Rattle.rules.specs.Answers.{ed, ef, code_number, outcome}
use Rattle.rules.specs.Calls.{turn_row, turn}
use Rattle.rules.specs.Source.{refused_reply, Reply}
use Rattle.results.specs.Results.{Gives}
use Rattle.results.proofs.Rows.{refusal, refuses, passes}
use Rattle.turning.specs.Turning.{turn_on_sound}
use Rattle.kernel.proofs.FirstChecks.{wrong-bytes, right-bytes}

module _ (t k : Bytes) where
  pub turn-wrong : (length k ≡ key_bytes → ⊥) → Gives (turn t k) (refused_reply (code_number ed)) t
  unfolding turn turn_row
  turn-wrong h = rw (refuses (wrong-bytes key_bytes k h)) (refusal t ed)

  module _ (size : length k ≡ key_bytes) where
    pub turn-unsound : not (sound_table t) ≡ true → Gives (turn t k) (refused_reply (code_number ef)) t
    unfolding turn turn_row
    turn-unsound q = rw (passes (right-bytes key_bytes k size), refuses q) (refusal t ef)

    pub turn-sound : not (sound_table t) ≡ false → {r : Reply} {t' : Bytes} → Gives (outcome t (turn_on_sound t k)) r t' → Gives (turn t k) r t'
    unfolding turn turn_row
    turn-sound q g = rw (passes (right-bytes key_bytes k size), passes q) g
