-- "If two results both satisfy a promise they are proved equal": demand 2 leaves no call's answer and no byte of a table open.
-- Both kernels are equal to the defined one on every input, so to each other.
use mathlib.Core.Path.{◌≡◌, refl, sym, ap, ◌∙◌}
use Rattle.rules.specs.Answers.{fields}
use Rattle.demands.specs.Kernels.{State, StateBytes, AnyCall, LentBytes, Step, Kernel, defined}
use Rattle.demands.specs.Demands.{Demand2}

-- the rules themselves meet it
pub demand-2-met : Demand2 defined
demand-2-met s c bs lent = refl

module _ (K L : Kernel) (for_k : Demand2 K) (for_l : Demand2 L) (s : State) (c : AnyCall) (bs : StateBytes s) (lent : LentBytes c) where
  pub demand-2-unique : K s c ≡ L s c
  demand-2-unique = for_k s c bs lent ∙ sym (for_l s c bs lent)

  -- so the result fields are the same
  pub demand-2-fields : fields (K s c).answer ≡ fields (L s c).answer
  demand-2-fields = ap (λ (x : Step). fields x.answer) demand-2-unique
