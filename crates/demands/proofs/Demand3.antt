-- The third demand holds of every kernel that meets the second. Each call in a sound state is a `Next`, so every state stays sound;
-- where a procedure's capabilities come from is found by going back through the events, the latest first.
use Prim.Native.Nat.{ℕ}
use mathlib.Core.Path.{◌≡◌, refl, sym, ap, ◌∙◌, subst}
use mathlib.Core.List.{List, [], ◌∷◌}
use mathlib.Core.Bool.{Bool, true, false, true≢false, not}
use mathlib.Core.Option.{Option, none, some}
use Rattle.rules.specs.Words.{Bytes}
use Rattle.rules.specs.Table.{Store, get}
use Rattle.rules.specs.Procedures.{Listed, Kept}
use Rattle.rules.specs.Sound.{sound_table, SoundTable}
use Rattle.rules.specs.Answers.{succeeds, ef, Result, Check, ◌⇒◌, judge, outcome}
use Rattle.rules.specs.Calls.{turn_row, turn, look_row, look, system_row, system_call}
use Rattle.demands.specs.Kernels.{State, with_table, ledger, StateBytes, SoundState, AnyCall, setting_up, turning, looking, calling, LentBytes, starts, asks_to_register, Kernel, defined_on, defined, Event, succeeded, started_anew, registers, state_now, last_registration, event, history, state_after}
use Rattle.demands.specs.Demands.{ListedAnswer, success, refusal, Demand2, IsWrite, Granted, SameKernelStorage, Next, AnyNext, Sequence, HoldsAfter, Demand3}
use Rattle.laws.proofs.Bools.{decide-false, and_left, and_right}
use Rattle.laws.proofs.Procedures.{nothing_stored}
use Rattle.laws.proofs.Rows.{In, member, passed-not, judge-cases}
use Rattle.laws.proofs.TableDecides.{GoodTable, good-bytes, good-sound-table, sound-table-good, sound_table-true, length-fits, good-sound_table}
use Rattle.demands.proofs.EachCall.{defined-step}
use Rattle.demands.proofs.FirstTable.{set_up-good}
use Rattle.demands.proofs.Demand1.{never-unsound, reports-succeed, defined-listed}

-- ONE CALL of the defined kernel. A Register and a Write do not begin anew.
register-starts-nothing : (c : AnyCall) (p : ℕ) → asks_to_register c p ≡ true → starts c ≡ false
unfolding starts asks_to_register
register-starts-nothing (setting_up k a ka) p h = absurd (true≢false (sym h))
register-starts-nothing (turning k) p h = refl
register-starts-nothing (looking k) p h = refl
register-starts-nothing (calling m code mask) p h = refl

write-starts-nothing : (c : AnyCall) → IsWrite c → starts c ≡ false
unfolding starts
write-starts-nothing (setting_up k a ka) w = absurd w
write-starts-nothing (turning k) w = refl
write-starts-nothing (looking k) w = refl
write-starts-nothing (calling m code mask) w = refl

-- a call that begins anew leaves a good table, whatever it was lent
begun : (t : Bytes) (c : AnyCall) → LentBytes c → starts c ≡ true → succeeds (defined_on t c).answer ≡ true → GoodTable (defined_on t c).table
unfolding starts defined_on
begun t (setting_up k a ka) lent h q = set_up-good t k a ka lent q
begun t (turning k) lent h q = absurd (true≢false (sym h))
begun t (looking k) lent h q = absurd (true≢false (sym h))
begun t (calling m code mask) lent h q = absurd (true≢false (sym h))

refused-kept : (s : State) (c : AnyCall) → succeeds (defined s c).answer ≡ false → (defined s c).after ≡ s
refused-kept s c h = go (defined-listed s c)
  where
    go : ListedAnswer s c (defined s c) → (defined s c).after ≡ s
    go (success reported) = absurd (true≢false (sym (reports-succeed reported) ∙ h))
    go (refusal code listed answer after) = after

defined-next : (s : State) → GoodTable s.table → (c : AnyCall) → LentBytes c → Next (event defined s c)
defined-next s g c lent =
    record {
      stays_sound = good-sound-table _ (stays (started_anew e) refl);
      never_unsound = never-unsound t (ap not (length-fits t g)) (ap not (good-sound_table t g)) c;
      refused_kept = refused-kept s c;
      procedures_kept = λ q. (defined-step s g c lent q).lawful.kept;
      registered_within = λ p h. (defined-step s g c lent (continues (register-starts-nothing c p (asks p h)))).lawful.granted p h;
      writes_covered = λ w. (defined-step s g c lent (continues (write-starts-nothing c w))).lawful.wrote w;
      kernel_kept = λ w. (defined-step s g c lent (continues (write-starts-nothing c w))).lawful.kernel w;
      others_kept = λ q. (defined-step s g c lent q).lawful.others;
    }
  where
    t : Bytes
    t = s.table

    e : Event
    e = event defined s c

    asks : (p : ℕ) → registers e p ≡ true → asks_to_register c p ≡ true
    asks p h = unfold registers in (and_left _ _ h)

    continues : starts c ≡ false → started_anew e ≡ false
    continues h = unfold started_anew in (rw h)

    stays : (b : Bool) → started_anew e ≡ b → GoodTable e.step.after.table
    stays false q = (defined-step s g c lent q).good
    stays true q =
        let starting : starts c ≡ true = unfold started_anew in (and_left _ _ q) in
        let done : succeeded e ≡ true = unfold started_anew in (and_right (starts c) _ q) in
        begun t c lent starting done

-- A table that is not sound is refused as it is, except by a set-up.
module _ (t : Bytes) (unsound : sound_table t ≡ false) where
  judged : (cs : List Check) (r : Result) → In (not (sound_table t) ⇒ ef) cs → (outcome t (judge cs r)).table ≡ t
  unfolding outcome
  judged cs r i =
      judge-cases (λ r. (outcome t r).table ≡ t) cs r (λ c here e. refl)
      (λ ps. absurd (true≢false (sym (passed-not (ps (not (sound_table t) ⇒ ef) i)) ∙ unsound)))

  unsound-kept : (c : AnyCall) → starts c ≡ false → (defined_on t c).table ≡ t
  unfolding starts defined_on turn turn_row look look_row system_call system_row
  unsound-kept (setting_up k a ka) h = absurd (true≢false h)
  unsound-kept (turning k) h = judged _ _ (search member depth 12)
  unsound-kept (looking k) h = judged _ _ (search member depth 12)
  unsound-kept (calling m code mask) h = judged _ _ (search member depth 12)

-- Where what the procedure p holds in the store s comes from: from its last registration, or, if it was not registered since,
-- from the state at the beginning.
abbrev Origin : (start : State) → Store → ℕ → Option Event → Type 0
Origin start s p (some e) = Granted e s p
Origin start s p none = Kept (ledger start) s p

-- a call that keeps p keeps where it comes from
origin-kept : (start : State) (s s' : Store) (p : ℕ) (last : Option Event) → Kept s s' p → Origin start s p last → Origin start s' p last
origin-kept start s s' p (some e) k origin = λ kind. rw (k.holds kind) (origin kind)
origin-kept start s s' p none k origin =
    record { was = origin.was; address = k.address ∙ origin.address; holds = λ kind. k.holds kind ∙ origin.holds kind }

module _ (K : Kernel) (meets : Demand2 K) where
  -- ONE CALL of the kernel is one of the defined kernel.
  next_of : (s : State) → SoundState s → AnyNext K s
  next_of s sound c lent =
      let g = sound-table-good s.table sound in
      rw (meets s c (good-bytes s.table g) lent) (defined-next s g c lent)

  -- ANY NUMBER OF CALLS from a sound state.
  module _ (start : State) (sound : SoundState start) where
    sound-after : (cs : List AnyCall) → Sequence K start cs → SoundState (state_after K start cs)
    unfolding state_now history
    sound-after [] run = sound
    sound-after (c ∷ cs) run = (next_of (state_after K start cs) (sound-after cs run.2) c run.0).stays_sound

    origin-after : (cs : List AnyCall) → Sequence K start cs → (p : ℕ) → Listed (ledger (state_after K start cs)) p
        → Origin start (ledger (state_after K start cs)) p (last_registration p (history K start cs))
    unfolding state_now history last_registration
    origin-after [] run p l = record { was = l; address = refl; holds = λ kind. refl }
    origin-after (c ∷ cs) run p l =
        go (registers e p) refl (next_of s (sound-after cs run.2) c run.0) (origin-after cs run.2 p)
      where
        s : State
        s = state_after K start cs

        e : Event
        e = event K s c

        go : (b : Bool) → registers e p ≡ b → Next e
            → (Listed (ledger s) p → Origin start (ledger s) p (last_registration p (history K start cs)))
            → Origin start (ledger e.step.after) p (elim b [ true ↦ some e | false ↦ last_registration p (history K start cs) ])
        go true here next before = next.registered_within p here
        go false other next before =
            let k = next.procedures_kept run.1 p l other in
            origin-kept start (ledger s) (ledger e.step.after) p (last_registration p (history K start cs)) k (before k.was)

    holds_after : (cs : List AnyCall) → Sequence K start cs → HoldsAfter K start cs
    holds_after cs run =
        record {
          stands = record {
            sound = is-sound;
            once = good.good.sound.distinct;
            indexed = good.good.sound.indexes;
            nothing = nothing_stored good.good;
          };
          past = record {
            granted = λ p l e q. subst (Origin start (ledger s) p) q (origin-after cs run p l);
            original = λ p l q. subst (Origin start (ledger s) p) q (origin-after cs run p l);
          };
          next = next_of s is-sound;
        }
      where
        s : State
        s = state_after K start cs

        is-sound : SoundState s
        is-sound = sound-after cs run

        good : GoodTable s.table
        good = sound-table-good s.table is-sound

  -- IN ANY STATE of bytes: where the table is not sound, it is left as it is.
  module _ (s : State) (c : AnyCall) (bs : StateBytes s) (lent : LentBytes c) where
    left_alone : sound_table s.table ≡ false → started_anew (event K s c) ≡ false → (K s c).after ≡ s
    left_alone unsound continues =
        let same = meets s c bs lent in
        rw same (go (starts c) refl (rw same at continues))
      where
        go : (b : Bool) → starts c ≡ b → started_anew (event defined s c) ≡ false → (defined s c).after ≡ s
        go true h q = refused-kept s c (unfold started_anew in (rw h at q))
        go false h q = ap (with_table s) (unsound-kept s.table unsound c h)

    unsound-left : (SoundTable s.table → ⊥) → started_anew (event K s c) ≡ false → (K s c).after ≡ s
    unsound-left not_sound continues = left_alone (decide-false _ (λ q. not_sound (sound_table-true s.table q))) continues

    write_kept : IsWrite c → SameKernelStorage s (K s c).after
    write_kept w k in_k = go (sound_table s.table) refl
      where
        continues : started_anew (event K s c) ≡ false
        continues = unfold started_anew in (rw (write-starts-nothing c w))

        go : (b : Bool) → sound_table s.table ≡ b → get (ledger (K s c).after) k ≡ get (ledger s) k
        go true q = (next_of s (sound_table-true s.table q) c lent).kernel_kept w k in_k
        go false q = ap (λ (x : State). get (ledger x) k) (left_alone q continues)

  pub demand-3 : Demand3 K
  demand-3 =
      record {
        after_set_up = λ s c bs lent starting done cs run.
            let same = meets s c bs lent in
            holds_after (K s c).after
            (rw same (good-sound-table _ (begun s.table c lent starting (rw same at done)))) cs run;
        after_sound = holds_after;
        every_write = write_kept;
        unsound_kept = unsound-left;
      }
