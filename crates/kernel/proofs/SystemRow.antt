-- The row of every system call: each return of the code is a place in it.
use Prim.Native.Nat.{◌≤◌, ◌<◌}
use mathlib.Core.Path.{◌≡◌}
use mathlib.Core.Bool.{true, false, not}
use lib.ListN.{length}
use borrow.Author.Tests.{eq-eqb, ne_eqb, lt-ltb, le-ltb}
use Rattle.rules.specs.Words.{Bytes, word_bytes}
use Rattle.rules.specs.Table.{room, store}
use Rattle.rules.specs.Sound.{sound_table}
use Rattle.rules.specs.Messages.{greatest_message, type_of, data_of, named}
use Rattle.rules.specs.Answers.{ed, ef, e0, ea, code_number, outcome}
use Rattle.rules.specs.Calls.{do_named, system_row, system_call}
use Rattle.rules.specs.Source.{refused_reply, Reply}
use Rattle.results.specs.Results.{Gives}
use Rattle.results.proofs.Rows.{refusal, refuses, passes}
use Rattle.kernel.proofs.FirstChecks.{wrong-bytes, right-bytes}

module _ (t m code mask : Bytes) where
  pub mask-wrong : (length mask ≡ word_bytes → ⊥) → Gives (system_call t m code mask) (refused_reply (code_number ed)) t
  unfolding system_call system_row
  mask-wrong h = rw (refuses (wrong-bytes word_bytes mask h)) (refusal t ed)

  module _ (size : length mask ≡ word_bytes) where
    pub call-unsound : not (sound_table t) ≡ true → Gives (system_call t m code mask) (refused_reply (code_number ef)) t
    unfolding system_call system_row
    call-unsound q = rw (passes (right-bytes word_bytes mask size), refuses q) (refusal t ef)

    module _ (sound : not (sound_table t) ≡ false) where
      pub call-empty : length m ≡ 0 → Gives (system_call t m code mask) (refused_reply (code_number e0)) t
      unfolding system_call system_row
      call-empty q = rw (passes (right-bytes word_bytes mask size), passes sound, refuses (eq-eqb (length m) 0 q)) (refusal t e0)

      module _ (some : length m ≡ 0 → ⊥) where
        pub call-too-long : greatest_message < length m → Gives (system_call t m code mask) (refused_reply (code_number ea)) t
        unfolding system_call system_row
        call-too-long q =
            rw (
              passes (right-bytes word_bytes mask size),
              passes sound,
              passes (ne_eqb (length m) 0 some),
              refuses (lt-ltb greatest_message (length m) q),
            )
            (refusal t ea)

        pub call-message : length m ≤ greatest_message → {r : Reply} {t' : Bytes}
            → Gives (outcome t (do_named (room t) (store t) (data_of m) code mask (named (type_of m)))) r t' → Gives (system_call t m code mask) r t'
        unfolding system_call system_row
        call-message q g =
            rw (
              passes (right-bytes word_bytes mask size),
              passes sound,
              passes (ne_eqb (length m) 0 some),
              passes (le-ltb greatest_message (length m) q),
            )
            g
