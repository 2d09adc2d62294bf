-- What an accepted plan has.
use mathlib.Core.Path.{◌≡◌, refl, sym}
use mathlib.Core.Bool.{Bool, true, false, cond}
use borrow.Author.Tests.{eqb-true}
use lib.Dec.{eqb}
use Rattle.std.specs.Prelude.{Ok, Err}
use Rattle.record.proofs.Refusals.{none_refused, not_refused, not_refused_unless}
use Rattle.plan.specs.declared.Plan.{Plan}
use Rattle.plan.specs.Plan.{legal}
use Rattle.plan_clocks.specs.Clocks.{maybe_whole_hz, sys_hz, hclk_hz, pclk1_hz, pclk2_hz, usb_hz, target_of}
use Rattle.limits.specs.Limits.{core_on_absent_dll1, core_on_dbl96, flash_on_absent_dll, usb_on_absent_dll2}
use Rattle.limits.specs.Limits.{usb_not60, dll1_core_too_slow, hclk_too_fast, pclk1_too_fast, pclk2_too_fast, dll2_too_fast}
use Rattle.verdict.specs.tests.{plan_tests, plan_refusal}
use Rattle.verdict.specs.Verdict.{verdict_of, number_of}

-- an accepted plan passed each test
pub record Passed (p : Plan) : Type 0 where
  pub test_3 : legal p ≡ true
  pub test_4 : core_on_absent_dll1 p ≡ false
  pub test_5 : core_on_dbl96 p ≡ false
  pub test_6 : flash_on_absent_dll p.mpi1sel p ≡ false
  pub test_7 : flash_on_absent_dll p.mpi2sel p ≡ false
  pub test_8 : usb_on_absent_dll2 p ≡ false
  pub test_9 : usb_not60 p.usb (usb_hz p) ≡ false
  pub test_10 : dll1_core_too_slow p.sys (sys_hz p) ≡ false
  pub test_11 : hclk_too_fast (hclk_hz p) ≡ false
  pub test_12 : pclk1_too_fast (hclk_hz p) (pclk1_hz p) ≡ false
  pub test_13 : pclk2_too_fast (hclk_hz p) (pclk2_hz p) ≡ false
  pub test_14 : dll2_too_fast (hclk_hz p) (maybe_whole_hz p.dll2) ≡ false

pub passed : (p : Plan) → plan_refusal p ≡ 0 → Passed p
unfolding plan_refusal
passed p e =
    let none = none_refused (plan_tests p) e in
    record {
      test_3 = not_refused_unless 2 (legal p) search;
      test_4 = not_refused 3 (core_on_absent_dll1 p) search;
      test_5 = not_refused 4 (core_on_dbl96 p) search;
      test_6 = not_refused 5 (flash_on_absent_dll p.mpi1sel p) search;
      test_7 = not_refused 6 (flash_on_absent_dll p.mpi2sel p) search;
      test_8 = not_refused 7 (usb_on_absent_dll2 p) search;
      test_9 = not_refused 8 (usb_not60 p.usb (usb_hz p)) search;
      test_10 = not_refused 9 (dll1_core_too_slow p.sys (sys_hz p)) search;
      test_11 = not_refused 10 (hclk_too_fast (hclk_hz p)) search;
      test_12 = not_refused 11 (pclk1_too_fast (hclk_hz p) (pclk1_hz p)) search;
      test_13 = not_refused 12 (pclk2_too_fast (hclk_hz p) (pclk2_hz p)) search;
      test_14 = not_refused 13 (dll2_too_fast (hclk_hz p) (maybe_whole_hz p.dll2)) search;
    }

-- the number of a verdict is the plan's refusal, 0 for none
pub number_is : (p : Plan) → number_of (verdict_of p) ≡ plan_refusal p
unfolding verdict_of
number_is p = by (eqb (plan_refusal p) 0) refl
  where
    by : (t : Bool) → eqb (plan_refusal p) 0 ≡ t → number_of (cond t (Ok (target_of p)) (Err (plan_refusal p))) ≡ plan_refusal p
    by true e = sym (eqb-true (plan_refusal p) 0 e)
    by false e = refl
