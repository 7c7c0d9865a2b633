-- One call in the third demand's words: `Lawful` is what its sentences ask of a call, a `GoodStep` that and a good table after it.
-- A refusal and an answer leave the table as it was; a changed store is written, and read back as it was written.
use Prim.Native.Nat.{ℕ}
use mathlib.Core.Path.{◌≡◌, refl, sym, ◌∙◌}
use mathlib.Core.Logic.{◌⊎◌, inl}
use mathlib.Core.List.{List}
use mathlib.Core.Bool.{true, false, true≢false}
use Rattle.rules.specs.Words.{Bytes}
use Rattle.rules.specs.Table.{Store, get, room, store, Sized}
use Rattle.rules.specs.KernelStorage.{in_kernel_storage}
use Rattle.rules.specs.Procedures.{Listed, Kept}
use Rattle.rules.specs.Answers.{Refusal, Answer, fields, succeeds, Result, refuse, answer, change, Check, judge, Outcome, outcome}
use Rattle.demands.specs.Kernels.{State, ledger, AnyCall, asks_to_register, on_table, Event, registers}
use Rattle.demands.specs.Demands.{IsWrite, Granted, CoveredWrite, LandsCovered}
use Rattle.laws.proofs.Bools.{decide-false, and_right}
use Rattle.laws.proofs.Rows.{Passes, judge-cases}
use Rattle.laws.proofs.Procedures.{Good}
use Rattle.laws.proofs.TableDecides.{GoodTable, written-store, written-good}

-- the call c in the state σ, with the outcome o on its table
abbrev pub event_on : State → AnyCall → Outcome → Event
event_on σ c o = record { before = σ; call = c; step = on_table σ o }

-- what it does: s' is the store after it
pub record Lawful (σ : State) (c : AnyCall) (o : Outcome) (s' : Store) : Type 0 where
  -- a listed procedure that it did not register was listed, and holds what it held
  pub kept : (p : ℕ) → Listed s' p → registers (event_on σ c o) p ≡ false → Kept (ledger σ) s' p
  -- one that it registered holds only what lies within a single capability of the registrar
  pub granted : (p : ℕ) → registers (event_on σ c o) p ≡ true → Granted (event_on σ c o) s' p
  -- a Write that succeeds is covered; it changes no kernel storage, and any other slot changes only by a covered Write
  pub wrote : IsWrite c → succeeds o.answer ≡ true → LandsCovered (event_on σ c o)
  pub kernel : IsWrite c → (k : ℕ) → in_kernel_storage k ≡ true → get s' k ≡ get (ledger σ) k
  pub others : (k : ℕ) → in_kernel_storage k ≡ false → (get s' k ≡ get (ledger σ) k) ⊎ CoveredWrite (event_on σ c o) k

pub record GoodStep (σ : State) (c : AnyCall) (o : Outcome) : Type 0 where
  pub good : GoodTable o.table
  pub lawful : Lawful σ c o (store o.table)

-- Most calls register nothing; no refused one does.
abbrev pub Quiet : State → AnyCall → Outcome → Type 0
Quiet σ c o = (p : ℕ) → registers (event_on σ c o) p ≡ false

refused-quiet : (σ : State) (c : AnyCall) (o : Outcome) → succeeds o.answer ≡ false → Quiet σ c o
unfolding registers
refused-quiet σ c o q p = decide-false _ (λ h. true≢false (sym (and_right (asks_to_register c p) _ h) ∙ q))

-- The results of a call in a state with a good table.
module _ (σ : State) (g : GoodTable σ.table) (c : AnyCall) where
  abbrev t : Bytes
  t = σ.table

  -- a changed store
  pub change-step : (a : Answer) (s' : Store) → Good (room t) s' → Sized s' → Lawful σ c (outcome t (change a s')) s'
      → GoodStep σ c (outcome t (change a s'))
  unfolding outcome
  change-step a s' good sized lawful =
      record {
        good = written-good t s' g.long good sized;
        lawful = rw (written-store t s' g.long good sized) lawful;
      }

  -- a call that is no Write and registers nothing
  pub quiet-lawful : (o : Outcome) (s' : Store) → Quiet σ c o → (IsWrite c → ⊥) → ((p : ℕ) → Listed s' p → Kept (store t) s' p)
      → ((k : ℕ) → in_kernel_storage k ≡ false → get s' k ≡ get (store t) k) → Lawful σ c o s'
  quiet-lawful o s' quiet no_write kept others =
      record {
        kept = λ p l h. kept p l;
        granted = λ p h. absurd (true≢false (sym h ∙ quiet p));
        wrote = λ w. absurd (no_write w);
        kernel = λ w. absurd (no_write w);
        others = λ k out. inl (others k out);
      }

  unchanged : (p : ℕ) → Listed (store t) p → Kept (store t) (store t) p
  unchanged p l = record { was = l; address = refl; holds = λ kind. refl }

  pub answer-step : (a : Answer) → Quiet σ c (outcome t (answer a)) → (IsWrite c → ⊥) → GoodStep σ c (outcome t (answer a))
  unfolding outcome
  answer-step a quiet no_write = record { good = g; lawful = quiet-lawful _ (store t) quiet no_write unchanged (λ k out. refl) }

  pub refuse-step : (code : Refusal) → GoodStep σ c (outcome t (refuse code))
  unfolding outcome succeeds fields
  refuse-step code =
      record {
        good = g;
        lawful = record {
          kept = λ p l h. unchanged p l;
          granted = λ p h. absurd (true≢false (sym h ∙ refused-quiet σ c _ refl p));
          wrote = λ w h. absurd (true≢false (sym h));
          kernel = λ w k in_k. refl;
          others = λ k out. inl refl;
        };
      }

  -- a row: each check that fails refuses
  pub row_step : (cs : List Check) (r : Result) → (Passes cs → GoodStep σ c (outcome t r)) → GoodStep σ c (outcome t (judge cs r))
  row_step cs r passed = judge-cases (λ r. GoodStep σ c (outcome t r)) cs r (λ check i e. refuse-step check.code) passed
