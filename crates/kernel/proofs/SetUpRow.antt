-- Set-up's row up to the sizes: each return of the code is a place in it.
use Prim.Native.Nat.{◌%◌, ◌≤◌, ◌<◌}
use mathlib.Core.Path.{◌≡◌, ap}
use mathlib.Core.Bool.{true, false, not}
use lib.ListN.{length}
use borrow.Author.Tests.{eq-eqb, ne_eqb, le-leb, lt-leb}
use Rattle.rules.specs.Words.{Bytes, key_bytes, address_bytes}
use Rattle.rules.specs.Table.{record_size, greatest_table, length_fits}
use Rattle.rules.specs.Answers.{ed, ef, code_number, outcome}
use Rattle.rules.specs.Calls.{set_up_row, set_up}
use Rattle.rules.specs.Source.{refused_reply, Reply}
use Rattle.results.specs.Results.{Gives}
use Rattle.results.proofs.Rows.{refusal, refuses, passes}
use Rattle.starting.specs.Starting.{set_up_on_sizes}
use Rattle.kernel.proofs.FirstChecks.{wrong-bytes, right-bytes}

module _ (t k a ka : Bytes) where
  pub key-wrong : (length k ≡ key_bytes → ⊥) → Gives (set_up t k a ka) (refused_reply (code_number ed)) t
  unfolding set_up set_up_row
  key-wrong h = rw (refuses (wrong-bytes key_bytes k h)) (refusal t ed)

  module _ (key : length k ≡ key_bytes) where
    pub address-wrong : (length a ≡ address_bytes → ⊥) → Gives (set_up t k a ka) (refused_reply (code_number ed)) t
    unfolding set_up set_up_row
    address-wrong h = rw (passes (right-bytes key_bytes k key), refuses (wrong-bytes address_bytes a h)) (refusal t ed)

    module _ (address : length a ≡ address_bytes) where
      pub kernel-wrong : (length ka ≡ address_bytes → ⊥) → Gives (set_up t k a ka) (refused_reply (code_number ed)) t
      unfolding set_up set_up_row
      kernel-wrong h =
          rw (passes (right-bytes key_bytes k key), passes (right-bytes address_bytes a address), refuses (wrong-bytes address_bytes ka h))
          (refusal t ed)

      module _ (kernel : length ka ≡ address_bytes) where
        misfit : length_fits t ≡ false → Gives (set_up t k a ka) (refused_reply (code_number ef)) t
        unfolding set_up set_up_row
        misfit h =
            rw (
              passes (right-bytes key_bytes k key),
              passes (right-bytes address_bytes a address),
              passes (right-bytes address_bytes ka kernel),
              refuses (ap not h),
            )
            (refusal t ef)

        pub not-whole : (length t % record_size ≡ 0 → ⊥) → Gives (set_up t k a ka) (refused_reply (code_number ef)) t
        not-whole h = misfit (unfold length_fits in rw (ne_eqb (length t % record_size) 0 h))

        module _ (whole : length t % record_size ≡ 0) where
          pub too_long : greatest_table < length t → Gives (set_up t k a ka) (refused_reply (code_number ef)) t
          too_long h = misfit (unfold length_fits in rw (eq-eqb (length t % record_size) 0 whole, lt-leb (length t) greatest_table h))

          module _ (short : length t ≤ greatest_table) where
            pub fits : length_fits t ≡ true
            unfolding length_fits
            fits = rw (eq-eqb (length t % record_size) 0 whole) (le-leb (length t) greatest_table short)

            pub sizes-right : {r : Reply} {t' : Bytes} → Gives (outcome t (set_up_on_sizes t k a ka)) r t' → Gives (set_up t k a ka) r t'
            unfolding set_up set_up_row
            sizes-right g =
                rw (
                  passes (right-bytes key_bytes k key),
                  passes (right-bytes address_bytes a address),
                  passes (right-bytes address_bytes ka kernel),
                  passes (ap not fits),
                )
                g
