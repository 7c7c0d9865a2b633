-- "Demand 3 .. rejects the copying one again", and it rejects more wrong kernels.
-- Of each, calls are computed, and a sentence of `Demand3` is then false.
use Prim.Native.Nat.{ℕ, ◌≤◌, ◌^◌, ◌-◌}
use native.Mathlib.Omega.{arith}
use mathlib.Core.Path.{◌≡◌, refl, sym, ap, subst}
use mathlib.Core.Logic.{inl, inr}
use mathlib.Core.List.{List, [], ◌∷◌}
use mathlib.Core.Bool.{true, false, true≢false}
use lib.Dec.{eqb, lit≤}
use Rattle.rules.specs.Words.{same_bytes}
use Rattle.rules.specs.Table.{Store, store}
use Rattle.rules.specs.KernelStorage.{kernel_address_slot}
use Rattle.rules.specs.Capabilities.{write, within}
use Rattle.rules.specs.Procedures.{list_length, key_at, capability, InList, Listed, current}
use Rattle.rules.specs.Sound.{SoundTable}
use Rattle.rules.specs.Answers.{succeeds}
use Rattle.demands.specs.Kernels.{State, state_of, ledger, AnyCall, setting_up, turning, LentBytes, Kernel, started_anew, event}
use Rattle.demands.specs.Demands.{LiesWithinOne, Sequence, HoldsAfter, Demand3}
use Rattle.laws.proofs.TableDecides.{true-sound_table}
use Rattle.stand_ins.specs.StandIns.{copy_register, copy_call, copying, forget_index, forget, forgetting, lying, next_key, renaming, hide, hiding, clear, concealing, tidying, scribble, scribbling, usurping, spoil, spoiling, veering, revive, reviving, overwrite, overwriting}
use Rattle.demands.proofs.Computing.{computing}
use Rattle.demands.specs.Worked.{sending}
use Rattle.stand_ins.proofs.Lent.{empty, key, address, kernel_address, the_set_up, start, no_key, null, writing, permitted, forbidden, empty-bytes, set-up-lent, refused-bytes, null-bytes, writing-bytes, permitted-bytes, forbidden-bytes, second, second-bytes, third, third-bytes, deleting, second_key, deleting-bytes, second-key-bytes, seizing, seizing-bytes, hidden, hidden-bytes, key-bytes}

-- the state that a kernel's set-up leaves
abbrev after_first : Kernel → State
after_first K = (K (state_of empty) the_set_up).after

from-set-up : (K : Kernel) (cs : List AnyCall) → Demand3 K → succeeds (K (state_of empty) the_set_up).answer ≡ true
    → Sequence K (after_first K) cs → HoldsAfter K (after_first K) cs
unfolding computing
from-set-up K cs d succeeded run = d.after_set_up (state_of empty) the_set_up empty-bytes set-up-lent refl succeeded cs run

after_one : (K : Kernel) (c : AnyCall) → Demand3 K → succeeds (K (state_of empty) the_set_up).answer ≡ true
    → LentBytes c → started_anew (event K (after_first K) c) ≡ false → HoldsAfter K (after_first K) (c ∷ [])
unfolding computing
after_one K c d succeeded lent continues = from-set-up K (c ∷ []) d succeeded (lent, continues, tt)

-- a key at the second of two places is listed
last-of-two : {s : Store} → list_length s ≡ 2 → InList s 2
last-of-two two = record { first = lit≤ tt; last = omega (arith, two) }

at_second : {s : Store} {p : ℕ} → list_length s ≡ 2 → key_at s 2 ≡ p → Listed s p
at_second two here = record { place = 2; in_list = last-of-two two; here = here }

-- what holds of a number from 1 to 1 holds of 1
only_one : (P : ℕ → Type 0) (n : ℕ) → 1 ≤ n → n ≤ 1 → P n → P 1
only_one P n first last h = subst P (omega arith) h

-- the first procedure's only Write capability is Write(0, 2^256−1)
not_within : LiesWithinOne (store start) (current (store start)) write ((2 ^ 256 - 1) ∷ 1 ∷ []) → ⊥
unfolding computing start empty key address kernel_address
not_within w =
    true≢false (sym (only_one (λ n. within write ((2 ^ 256 - 1) ∷ 1 ∷ []) (capability (store start) (current (store start)) write n) ≡ true)
    w.which w.first w.last w.inside))

-- the first procedure is the only one listed
not_listed : (p : ℕ) → 2 ≤ p → Listed (store start) p → ⊥
unfolding computing start empty key address kernel_address
not_listed p h l =
    let first : 1 ≡ p = only_one (λ n. key_at (store start) n ≡ p) l.place l.in_list.first l.in_list.last l.here in
    omega (arith, first)

-- The procedures 2 and 3 are registered, and 2 is deleted: 3 stands at the second place, and its index is 3.
pub forgetting-fails-demand-3 : Demand3 forgetting → ⊥
unfolding computing empty key address kernel_address second third deleting forget_index forget
forgetting-fails-demand-3 d =
    true≢false (sym (
    ap (λ (n : ℕ). eqb n 2)
    ((from-set-up forgetting (sending deleting ∷ sending third ∷ sending second ∷ []) d refl
    (deleting-bytes, refl, (third-bytes, refl, (second-bytes, refl, tt)))
    ).stands.indexed 2 (last-of-two refl))))

-- Registering Set Entry and Write(2^256−1, 1): the new procedure's Write lies within none that its registrar held.
pub copying-fails-demand-3 : Demand3 copying → ⊥
unfolding computing start empty key address kernel_address forbidden copy_register copy_call
copying-fails-demand-3 d =
    not_within ((after_one copying (sending forbidden) d refl forbidden-bytes refl).past.granted 2 (at_second refl refl) (event copying (state_of start) (sending forbidden)) refl write).0

-- Registering the procedure 2 is refused, and it is listed after: it was not registered since, nor listed at set-up.
pub lying-fails-demand-3 : Demand3 lying → ⊥
unfolding computing start empty key address kernel_address permitted
lying-fails-demand-3 d =
    not_listed 2 (lit≤ tt) ((after_one lying (sending permitted) d refl permitted-bytes refl).past.original 2 (at_second refl refl) refl).was

-- Registering the procedure 2 lists the procedure 3: it was not registered since, nor listed at set-up.
pub renaming-fails-demand-3 : Demand3 renaming → ⊥
unfolding computing start empty key address kernel_address permitted next_key
renaming-fails-demand-3 d =
    not_listed 3 (lit≤ tt) ((after_one renaming (sending permitted) d refl permitted-bytes refl).past.original 3 (at_second refl refl) refl).was

-- A Null leaves a record behind a gap, and the next Null is refused with 66 ef.
pub hiding-fails-demand-3 : Demand3 hiding → ⊥
unfolding computing empty key address kernel_address null hide
hiding-fails-demand-3 d = ((after_one hiding (sending null) d refl null-bytes refl).next (sending null) null-bytes).never_unsound refl

-- A Null leaves a record behind a gap: the table is not sound.
pub concealing-fails-demand-3 : Demand3 concealing → ⊥
unfolding computing empty key address kernel_address null hide clear
concealing-fails-demand-3 d = true≢false (sym (true-sound_table _ (after_one concealing (sending null) d refl null-bytes refl).stands.sound))

-- A Null changes slot 0, and is no Write.
pub scribbling-fails-demand-3 : Demand3 scribbling → ⊥
unfolding computing empty key address kernel_address null scribble
scribbling-fails-demand-3 d =
    elim (((from-set-up scribbling [] d refl tt).next (sending null) null-bytes).others_kept refl 0 refl) [
      | inl same ↦ true≢false (ap (λ (n : ℕ). eqb n 1) same)
      | inr wrote ↦ true≢false (ap (λ (n : ℕ). eqb n 0) wrote.asked.is_write)
    ]

-- A Write changes the kernel address.
pub usurping-fails-demand-3 : Demand3 usurping → ⊥
unfolding computing empty key address kernel_address writing scribble
usurping-fails-demand-3 d =
    true≢false (
    ap (λ (n : ℕ). eqb n 1) (((from-set-up usurping [] d refl tt).next (sending writing) writing-bytes).kernel_kept refl kernel_address_slot refl))

-- A refused set-up leaves an empty table, and a Null is refused with 66 ef.
pub spoiling-fails-demand-3 : Demand3 spoiling → ⊥
unfolding computing empty key no_key address kernel_address null spoil
spoiling-fails-demand-3 d =
    ((after_one spoiling (setting_up no_key address kernel_address) d refl refused-bytes refl).next (sending null) null-bytes).never_unsound refl

-- The procedure 2 is registered; then a Turn to it is refused, and it is current.
pub veering-fails-demand-3 : Demand3 veering → ⊥
unfolding computing empty key address kernel_address permitted second_key
veering-fails-demand-3 d =
    true≢false (
    ap (λ (s : State). eqb (current (ledger s)) 2)
    (((after_one veering (sending permitted) d refl permitted-bytes refl).next (turning second_key) second-key-bytes).refused_kept refl))

-- The procedure 2 is registered and deleted; then a Null lists it again.
pub reviving-fails-demand-3 : Demand3 reviving → ⊥
unfolding computing start empty key address kernel_address permitted deleting null revive
reviving-fails-demand-3 d =
    not_listed 2 (lit≤ tt) (((from-set-up reviving (sending deleting ∷ sending permitted ∷ []) d refl (deleting-bytes, refl, (permitted-bytes, refl, tt))
    ).next (sending null) null-bytes).procedures_kept refl 2 (at_second refl refl) refl).was

-- A table of zeros is not sound, and a Write stores the kernel address there.
pub overwriting-fails-demand-3 : Demand3 overwriting → ⊥
unfolding computing empty seizing overwrite
overwriting-fails-demand-3 d =
    true≢false (
    ap (λ (n : ℕ). eqb n 1) (d.every_write (state_of empty) (sending seizing) empty-bytes seizing-bytes refl kernel_address_slot refl))

-- A record stands behind a gap, so the table is not sound; a Turn clears it.
pub tidying-fails-demand-3 : Demand3 tidying → ⊥
unfolding computing empty key address kernel_address start hidden hide clear
tidying-fails-demand-3 d =
    true≢false (
    ap (λ (s : State). same_bytes s.table start)
    (d.unsound_kept (state_of hidden) (turning key) hidden-bytes key-bytes not_sound refl))
  where
    not_sound : SoundTable hidden → ⊥
    not_sound sound = true≢false (sym (true-sound_table hidden sound))
