-- The document's examples hold. All are computed from the definitions, but for P1, P2 and P3, which speak of every key that begins
-- with given bytes: what follows them is dropped before the first bits are compared, and the bits of the given bytes are computed.
use Prim.Native.Nat.{ℕ, ◌+◌, ◌*◌, ◌/◌, ◌^◌, ◌-◌, ◌<◌}
use native.Mathlib.Nat.{div-div-eq-div-mul}
use native.Mathlib.Omega.{arith}
use mathlib.Core.Path.{◌≡◌, refl, sym, ap, ap₂, ◌∙◌}
use mathlib.Core.List.{[], ◌∷◌, ◌++◌}
use mathlib.Core.Bool.{Bool}
use lib.Dec.{eqb, lit<}
use lib.ListN.{length, length-append}
use Rattle.rules.specs.Words.{key_bytes, Bytes, AllBytes, num_after, num}
use Rattle.rules.specs.Capabilities.{word_of, prefix, base, first_bits, covers_key, covers}
use Rattle.rules.specs.Answers.{code_number, code_bytes, fields, Refusal, aa, eb, e6, ef, x33, e1, e3, e5, e7, e9, refuse, outcome}
use Rattle.rules.specs.Examples.{AllTrue, EveryKey, EveryCapability, P1, P2, P3, P4, P5, P6, P7, P8, P9, P10, P11, cases, Refuses, BytesAreNumbers, SetUpHas13Records, SetUpNeedsItsBytes, WriteSparesKernelStorage, RegisterReportsTests, RequestsAreTestedFirst, CodeIsJudgedBeforeSeries, KeyStandsOnce, KeyIsRegisteredOnce, Types8And9AreUnknown, DataEndsWithItsFormat, OverlongIsJudgedBeforeKeys, CallAndRegisterStayOpenEnded, PrefixReachesTheLastBit, PrefixesEndAt192, WardClosesOneReferral, computed}
use Rattle.rules.proofs.Lists.{◌also◌, every_append}
use Rattle.rules.proofs.Bytes.{drops-last, keeps-last}
use Rattle.rules.proofs.Computing.{computing}

-- the two parts of a capability that are read from its word
module _ (s : ℕ) (unread key : Bytes) (v : AllBytes unread) (l : length unread ≡ 7) (w : AllBytes key) (k : length key ≡ key_bytes) where
  its-prefix : prefix (num ((s ∷ unread) ++ key) ∷ []) ≡ s
  unfolding prefix word_of num num_after
  its-prefix =
      sym (div-div-eq-div-mul (num ((s ∷ unread) ++ key)) (256 ^ key_bytes) (256 ^ 7))
      ∙ ap (λ (x : ℕ). x / 256 ^ 7) (drops-last key_bytes (s ∷ unread) key w k)
      ∙ drops-last 7 (s ∷ []) unread v l
      ∙ omega arith

  its-base : base (num ((s ∷ unread) ++ key) ∷ []) ≡ num key
  unfolding base word_of
  its-base = keeps-last key_bytes (s ∷ unread) key w k

-- the first s bits of a key that begins with given bytes, all but n of the 24: of their bits the last `spare` are not compared
module _ (s n spare : ℕ) (bits : 2 ^ (8 * key_bytes - s) ≡ 256 ^ n * 2 ^ spare) where
  first-bits : (first others : Bytes) → AllBytes others → length others ≡ n → first_bits s (num (first ++ others)) ≡ num first / 2 ^ spare
  unfolding first_bits
  first-bits first others v l =
      ap (λ (d : ℕ). num (first ++ others) / d) bits
      ∙ sym (div-div-eq-div-mul (num (first ++ others)) (256 ^ n) (2 ^ spare))
      ∙ ap (λ (x : ℕ). x / 2 ^ spare) (drops-last n first others v l)

  -- so the given bytes decide what is covered
  beginning : (b first : Bytes) → AllBytes b → length b + n ≡ key_bytes → length first + n ≡ key_bytes
      → {answer : Bool} → eqb (num first / 2 ^ spare) (num b / 2 ^ spare) ≡ answer
      → EveryCapability s b (λ c. EveryKey first (λ key. covers_key c key ≡ answer))
  unfolding covers_key
  beginning b first given lb lf same unread u lu others o lo more m lm =
      let key : ℕ = num (first ++ more) in
      let whole : AllBytes (b ++ others) = every_append (λ x. x < 256) b others given o in
      ap₂ (λ (p x : ℕ). eqb (first_bits p key) (first_bits p x)) (its-prefix s unread (b ++ others) u (omega arith) whole lo)
      (its-base s unread (b ++ others) u (omega arith) whole lo)
      ∙ ap₂ eqb (first-bits first more m (omega (arith, length-append first more)))
      (first-bits b others o (omega (arith, length-append b others)))
      ∙ same

-- the same for Call, Register and Delete
for-each : {A : Type 0} → A → A × (A × (A × Unit {0}))
for-each a = (a, (a, (a, tt)))

p1 : P1
unfolding covers num num_after
p1 = (
  for-each (beginning 8 23 0 refl (0xa0 ∷ []) (0xa0 ∷ []) (lit< tt, tt) refl refl refl),
  for-each (beginning 8 23 0 refl (0xa0 ∷ []) (0xa1 ∷ []) (lit< tt, tt) refl refl refl),
)

p2 : P2
unfolding covers num num_after
p2 = (
  for-each (beginning 9 22 7 refl (0xa0 ∷ 0x00 ∷ []) (0xa0 ∷ 0x7f ∷ []) (lit< tt, (lit< tt, tt)) refl refl refl),
  for-each (beginning 9 22 7 refl (0xa0 ∷ 0x00 ∷ []) (0xa0 ∷ 0x80 ∷ []) (lit< tt, (lit< tt, tt)) refl refl refl),
)

p3 : P3
unfolding covers num num_after
p3 = for-each (beginning 0 24 0 refl [] [] tt refl refl refl)

p4 : P4
unfolding computing
p4 = (for-each refl, for-each refl, for-each refl, for-each refl)

p5 : P5
unfolding computing
p5 = (for-each refl, for-each refl, for-each refl)

p6 : P6
unfolding computing
p6 = (refl, refl)

p7 : P7
unfolding computing
p7 = (refl, refl)

p8 : P8
unfolding computing
p8 = (refl, refl)

p9 : P9
unfolding computing
p9 = refl

p10 : P10
unfolding computing
p10 = (refl, refl, refl, refl)

p11 : P11
unfolding computing
p11 = (refl, refl, refl, refl, refl, refl)

pub P1-to-P11 : AllTrue cases
unfolding cases
P1-to-P11 = p1 also p2 also p3 also p4 also p5 also p6 also p7 also p8 also p9 also p10 also p11 also tt

-- what a row of checks comes to that refuses; that a row does is computed
refuses : (t : Bytes) (code : Refusal) → Refuses (code_bytes (code_number code)) t (outcome t (refuse code))
unfolding fields outcome
refuses t code = record { fields_are = refl; as_lent = refl }

bytes-are-numbers : BytesAreNumbers
unfolding computing
bytes-are-numbers = (refl, refl, refl, refl, refl)

set-up-has-13-records : SetUpHas13Records
unfolding computing
set-up-has-13-records = (refl, refl, refl)

set-up-needs-its-bytes : SetUpNeedsItsBytes
unfolding computing
set-up-needs-its-bytes = (refuses _ e7, refuses _ ef)

write-spares-kernel-storage : WriteSparesKernelStorage
unfolding computing
write-spares-kernel-storage = (refl, refl, refuses _ x33)

register-reports-tests : RegisterReportsTests
unfolding computing
register-reports-tests = refl

requests-are-tested-first : RequestsAreTestedFirst
unfolding computing
requests-are-tested-first = (refuses _ x33, refuses _ x33)

code-is-judged-before-series : CodeIsJudgedBeforeSeries
unfolding computing
code-is-judged-before-series = (refuses _ e9, refuses _ e5)

key-stands-once : KeyStandsOnce
unfolding computing
key-stands-once = refuses _ ef

key-is-registered-once : KeyIsRegisteredOnce
unfolding computing
key-is-registered-once = refuses _ e1

types-8-and-9-are-unknown : Types8And9AreUnknown
unfolding computing
types-8-and-9-are-unknown = (refuses _ aa, refuses _ aa, refl, refl)

data-ends-with-its-format : DataEndsWithItsFormat
unfolding computing
data-ends-with-its-format = (refl, refuses _ eb, refl, refuses _ eb, refl, refuses _ eb, refl, refuses _ eb)

overlong-is-judged-before-keys : OverlongIsJudgedBeforeKeys
unfolding computing
overlong-is-judged-before-keys = (refuses _ eb, refuses _ e6)

call-and-register-stay-open-ended : CallAndRegisterStayOpenEnded
unfolding computing
call-and-register-stay-open-ended = (refl, refuses _ e5)

prefix-reaches-the-last-bit : PrefixReachesTheLastBit
unfolding computing
prefix-reaches-the-last-bit = (
  for-each refl,
  for-each refl,
  for-each refl,
  for-each refl,
  for-each refl,
  for-each refl,
  for-each refl,
  for-each refl,
)

prefixes-end-at-192 : PrefixesEndAt192
unfolding computing
prefixes-end-at-192 = (refl, refl, refuses _ e5, refl, refl, refuses _ ef)

ward-closes-one-referral : WardClosesOneReferral
unfolding computing
ward-closes-one-referral = (refl, refl, refuses _ x33, refuses _ x33, refuses _ x33, refuses _ e3)

pub computed-hold : AllTrue computed
unfolding computed
computed-hold =
    bytes-are-numbers
    also set-up-has-13-records
    also set-up-needs-its-bytes
    also write-spares-kernel-storage
    also register-reports-tests
    also requests-are-tested-first
    also code-is-judged-before-series
    also key-stands-once
    also key-is-registered-once
    also types-8-and-9-are-unknown
    also data-ends-with-its-format
    also overlong-is-judged-before-keys
    also call-and-register-stay-open-ended
    also prefix-reaches-the-last-bit
    also prefixes-end-at-192
    also ward-closes-one-referral
    also tt
