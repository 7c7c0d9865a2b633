-- Look's row: each return of the code is a place in it.
use Rattle.std.proofs.Common.{Ok}
use mathlib.Core.Path.{◌≡◌}
use mathlib.Core.Bool.{true, false, not}
use lib.ListN.{length}
use Rattle.rules.specs.Words.{Bytes, word_bytes, num, word}
use Rattle.rules.specs.Table.{get, store}
use Rattle.rules.specs.Sound.{sound_table}
use Rattle.rules.specs.Answers.{ed, ef, code_number, looked}
use Rattle.rules.specs.Calls.{look_row, look}
use Rattle.rules.specs.Source.{refused_reply, reply_of, Reply}
use Rattle.rules.specs.declared.Success.TheVariants.{Looked}
use Rattle.results.specs.Results.{Gives}
use Rattle.results.proofs.Rows.{refusal, answers, refuses, passes, ends}
use Rattle.kernel.proofs.FirstChecks.{wrong-bytes, right-bytes}

module _ (t k : Bytes) where
  pub look-wrong : (length k ≡ word_bytes → ⊥) → Gives (look t k) (refused_reply (code_number ed)) t
  unfolding look look_row
  look-wrong h = rw (refuses (wrong-bytes word_bytes k h)) (refusal t ed)

  module _ (size : length k ≡ word_bytes) where
    pub look-unsound : not (sound_table t) ≡ true → Gives (look t k) (refused_reply (code_number ef)) t
    unfolding look look_row
    look-unsound q = rw (passes (right-bytes word_bytes k size), refuses q) (refusal t ef)

    pub look-done : not (sound_table t) ≡ false → {v : Bytes} → v ≡ word (get (store t) (num k))
        → Gives (look t k) (Ok (Looked v)) t
    unfolding look look_row reply_of
    look-done q h = rw (passes (right-bytes word_bytes k size), passes q, ends, h) (answers t _)
