-- Set-up's row where the sizes are right: each return of the code is a place in it. The 13 records that it needs are counted in the
-- laws.
use Rattle.std.proofs.Common.{◌^◌, ◌≤◌, ◌<◌, ◌≡◌, sym, ◌∙◌, Bool, true, false, eqb, length, lt-ltb, le-ltb, Ok}
use Rattle.rules.specs.Words.{Bytes, key_bytes, address_bytes, num}
use Rattle.rules.specs.Table.{bytes, length_fits}
use Rattle.rules.specs.Sound.{IsKey, IsAddress}
use Rattle.rules.specs.Answers.{e4, e7, code_number, outcome}
use Rattle.rules.specs.Calls.{is_zero, fresh, set_up_row}
use Rattle.rules.specs.Source.{refused_reply, reply_of}
use Rattle.rules.specs.declared.Success.TheVariants.{Done}
use Rattle.laws.proofs.Fresh.{set-up-bytes}
use Rattle.laws.proofs.Numbers.{non_zero}
use Rattle.founding.specs.Founding.{first_room, SetUpLent}
use Rattle.results.specs.Results.{Gives}
use Rattle.results.proofs.Rows.{refusal, changes, refuses, passes, ends}
use Rattle.starting.specs.Starting.{set_up_on_sizes}

-- what set-up is lent
pub record Lent (t k a ka : Bytes) : Type 0 where
  pub fits : length_fits t ≡ true
  pub key : num k < 256 ^ key_bytes
  pub address : num a < 256 ^ address_bytes
  pub kernel_address : num ka < 256 ^ address_bytes

module _ {t k a ka : Bytes} (z : Lent t k a ka) {p : Bool} (e : p ≡ eqb (num k) 0) where
  zero-key : {b : Bool} → p ≡ b → is_zero (num k) ≡ b
  unfolding is_zero
  zero-key q = sym e ∙ q

  pub key-zero : p ≡ true → Gives (outcome t (set_up_on_sizes t k a ka)) (refused_reply (code_number e4)) t
  unfolding set_up_row
  key-zero q = rw (refuses (zero-key q)) (refusal t e4)

  module _ (key : p ≡ false) {i : Bool} (g : i ≡ eqb (num a) 0) where
    zero-address : {b : Bool} → i ≡ b → is_zero (num a) ≡ b
    unfolding is_zero
    zero-address q = sym g ∙ q

    pub address-zero : i ≡ true → Gives (outcome t (set_up_on_sizes t k a ka)) (refused_reply (code_number e4)) t
    unfolding set_up_row
    address-zero q = rw (passes (zero-key key), refuses (zero-address q)) (refusal t e4)

    module _ (address : i ≡ false) {j : Bool} (h : j ≡ eqb (num ka) 0) where
      zero-kernel : {b : Bool} → j ≡ b → is_zero (num ka) ≡ b
      unfolding is_zero
      zero-kernel q = sym h ∙ q

      pub kernel-zero : j ≡ true → Gives (outcome t (set_up_on_sizes t k a ka)) (refused_reply (code_number e4)) t
      unfolding set_up_row
      kernel-zero q = rw (passes (zero-key key), passes (zero-address address), refuses (zero-kernel q)) (refusal t e4)

      module _ (kernel : j ≡ false) where
        is-key : IsKey (num k)
        is-key = record { non_zero = non_zero (num k) (sym e ∙ key); fits = z.key }

        is_address : IsAddress (num a)
        is_address = record { non_zero = non_zero (num a) (sym g ∙ address); fits = z.address }

        is-kernel : IsAddress (num ka)
        is-kernel = record { non_zero = non_zero (num ka) (sym h ∙ kernel); fits = z.kernel_address }

        pub set-up-no-room : length t < first_room → Gives (outcome t (set_up_on_sizes t k a ka)) (refused_reply (code_number e7)) t
        unfolding set_up_row
        set-up-no-room l =
            let full = set-up-bytes (num k) (num a) (num ka) is-key is_address is-kernel t ∙ lt-ltb (length t) first_room l in
            rw (passes (zero-key key), passes (zero-address address), passes (zero-kernel kernel), refuses full) (refusal t e7)

        module _ (l : first_room ≤ length t) where
          pub set-up-lent : SetUpLent t (num k) (num a) (num ka)
          set-up-lent = record { fits = z.fits; long = l; key = is-key; address = is_address; kernel_address = is-kernel }

          pub set-up-done : {t' : Bytes} → t' ≡ bytes (length t) (fresh (num k) (num a) (num ka))
              → Gives (outcome t (set_up_on_sizes t k a ka)) (Ok Done) t'
          unfolding set_up_row reply_of
          set-up-done q =
              let space = set-up-bytes (num k) (num a) (num ka) is-key is_address is-kernel t ∙ le-ltb (length t) first_room l in
              rw (passes (zero-key key), passes (zero-address address), passes (zero-kernel kernel), passes space, ends) (changes t _ _ q)
