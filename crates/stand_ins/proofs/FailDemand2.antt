-- "Demand 2 rejects all five": of each stand-in one call is computed, by it and by the rules.
-- The two steps differ in a test, so the stand-in's is not the defined one there.
use mathlib.Core.Path.{sym, ap}
use mathlib.Core.Bool.{Bool, true≢false}
use lib.Dec.{eqb}
use Rattle.rules.specs.Words.{same_bytes}
use Rattle.rules.specs.Answers.{fields, succeeds}
use Rattle.demands.specs.Kernels.{state_of, setting_up, Step}
use Rattle.demands.specs.Demands.{Demand2}
use Rattle.stand_ins.specs.StandIns.{refusing, agreeing, untouching, copy_register, copy_call, copying, invent_tests, inventing}
use Rattle.demands.proofs.Computing.{computing}
use Rattle.demands.specs.Worked.{sending}
use Rattle.stand_ins.proofs.Lent.{empty, key, address, kernel_address, the_set_up, start, no_key, permitted, forbidden, empty-bytes, start-bytes, set-up-lent, refused-bytes, permitted-bytes, forbidden-bytes}

-- the test that a step is a success
abbrev succeeding : Step → Bool
succeeding x = succeeds x.answer

-- It refuses a set-up that the rules permit.
pub refusing-fails-demand-2 : Demand2 refusing → ⊥
unfolding computing empty key address kernel_address
refusing-fails-demand-2 same = true≢false (sym (ap succeeding (same (state_of empty) the_set_up empty-bytes set-up-lent)))

-- It permits the set-up of a zero key, which the rules refuse.
pub agreeing-fails-demand-2 : Demand2 agreeing → ⊥
unfolding computing empty no_key address kernel_address
agreeing-fails-demand-2 same = true≢false (ap succeeding (same (state_of empty) (setting_up no_key address kernel_address) empty-bytes refused-bytes))

-- A set-up leaves the empty table empty.
pub untouching-fails-demand-2 : Demand2 untouching → ⊥
unfolding computing empty key address kernel_address
untouching-fails-demand-2 same =
    true≢false (
    ap (λ (x : Step). same_bytes x.after.table empty) (same (state_of empty) the_set_up empty-bytes set-up-lent))

-- It permits a Register whose second requested capability lies within none held.
pub copying-fails-demand-2 : Demand2 copying → ⊥
unfolding computing empty key address kernel_address start forbidden copy_register copy_call
copying-fails-demand-2 same = true≢false (ap succeeding (same (state_of start) (sending forbidden) start-bytes forbidden-bytes))

-- It reports one test where the rules make two.
pub inventing-fails-demand-2 : Demand2 inventing → ⊥
unfolding computing empty key address kernel_address start permitted invent_tests
inventing-fails-demand-2 same =
    true≢false (sym (ap (λ (x : Step). eqb (fields x.answer).tests 2) (same (state_of start) (sending permitted) start-bytes permitted-bytes)))
