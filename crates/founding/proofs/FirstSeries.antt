-- The series requests what set-up gives: both sides are computed.
use Rattle.std.proofs.Common.{ℕ, zero, suc, ◌+◌, ◌*◌, ◌-◌, ◌≤◌, ◌<◌, arith, add-one, ◌≡◌, refl, List, [], ◌∷◌, length, set, replicate, false, lit≤, get_or}
use Rattle.rules.specs.Words.{Bytes}
use Rattle.rules.specs.Source.{words_of}
use Rattle.rules.specs.declared.Kind.{Kind as Type_number}
use Rattle.rules.specs.Messages.{requests, series_at}
use Rattle.rules.specs.Calls.{too_many, first_capabilities}
use Rattle.rules.proofs.Computing.{computing}
use Rattle.requests.specs.Requests.{WellFormedFrom}
use Rattle.founding.specs.Founding.{first_series}

pub first-requests : requests first_series ≡ first_capabilities
unfolding computing first_series
first-requests = refl

pub first-well-formed : WellFormedFrom first_series series_at
unfolding computing first_series
first-well-formed = refl

pub first-few : too_many first_capabilities ≡ false
unfolding computing
first-few = refl

pub first-long : length first_series ≡ 576
unfolding computing first_series
first-long = refl

-- The loop that writes it: what is written for the first i types, and where the next begins.
abbrev pub types : List Type_number
types = record { 0 = 3 } ∷ record { 0 = 4 } ∷ record { 0 = 5 } ∷ record { 0 = 6 } ∷ record { 0 = 7 } ∷ []

abbrev pub number_at : ℕ → ℕ
number_at i = (get_or types i (record { 0 = 0 })).0

unfoldable pub next_at : (i : ℕ) → ℕ
next_at zero = 96
next_at (suc i) = next_at i + (64 + 32 * words_of (number_at i))

unfoldable pub bytes_after : (i : ℕ) → Bytes
bytes_after zero = replicate 576 0
bytes_after (suc i) =
    set (set (bytes_after i) (next_at i + 32 - 1) (1 + words_of (number_at i))) (next_at i + 64 - 1) (number_at i)

pub record Written (d : Bytes) (at i : ℕ) : Type 0 where
  pub bytes : d ≡ bytes_after i
  pub next : at ≡ next_at i

pub written-none : Written (replicate 576 0) 96 0
unfolding next_at bytes_after
written-none = record { bytes = refl; next = refl }

module _ {d : Bytes} {at i count : ℕ} (w : Written d at i) (e : count ≡ words_of (number_at i)) where
  pub written-within : i < 5 → at + 64 + 32 * count ≤ 576
  unfolding computing next_at words_of
  written-within h = rw (w.next, e) (go i h)
    where
      go : (i : ℕ) → i < 5 → next_at i + 64 + 32 * words_of (number_at i) ≤ 576
      go zero h = lit≤ tt
      go (suc zero) h = lit≤ tt
      go (suc (suc zero)) h = lit≤ tt
      go (suc (suc (suc zero))) h = lit≤ tt
      go (suc (suc (suc (suc zero)))) h = lit≤ tt
      go (suc (suc (suc (suc (suc i))))) h = absurd (omega arith)

  pub written-more : Written (set (set d (at + 32 - 1) (1 + count)) (at + 64 - 1) (number_at i)) (at + (64 + 32 * count)) (i + 1)
  unfolding next_at bytes_after
  written-more = record { bytes = rw (w.bytes, w.next, e, add-one); next = rw (w.next, e, add-one) }

pub written-all : {d : Bytes} {at i : ℕ} → Written d at i → i ≤ 5 → 5 ≤ i → d ≡ bytes_after 5
written-all {i = i} w h l = let last : i ≡ 5 = omega arith in rw last at w.bytes
