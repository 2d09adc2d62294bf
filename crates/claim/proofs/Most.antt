-- How large the refusals of a head's record and of a plan are.
use Prim.Native.Nat.{ℕ, ◌≤◌}
use mathlib.Core.Path.{◌≡◌, refl, sym, subst}
use mathlib.Core.Bool.{Bool, true, false, cond, not}
use mathlib.Core.List.{List}
use native.Mathlib.Omega.{arith}
use lib.Dec.{eqb, leb}
use borrow.Author.Tests.{leb-true}
use lib.ListN.{length, get_or, take, drop}
use Rattle.std.specs.Prelude.{Ok, Err}
use Rattle.record.specs.Bytes.{two_bytes, is_within}
use Rattle.record.specs.Refusals.{refuse, first_of}
use Rattle.record.proofs.Refusals.{Each, first_each, refuse_each}
use Rattle.plan.specs.declared.Plan.{Plan}
use Rattle.plan.specs.codes.{coded}
use Rattle.plan.specs.Plan.{legal}
use Rattle.plan.specs.tests.{record_tests}
use Rattle.plan.specs.bytes.{plan_of, record_refusal, decoded}
use Rattle.plan_clocks.specs.Clocks.{maybe_whole_hz, sys_hz, hclk_hz, pclk1_hz, pclk2_hz, usb_hz}
use Rattle.limits.specs.Limits.{core_on_absent_dll1, core_on_dbl96, flash_on_absent_dll, usb_on_absent_dll2}
use Rattle.limits.specs.Limits.{usb_not60, dll1_core_too_slow, hclk_too_fast, pclk1_too_fast, pclk2_too_fast, dll2_too_fast}
use Rattle.verdict.specs.tests.{frequency_tests, plan_tests, plan_refusal}
use Rattle.verdict.specs.Verdict.{judged, verdict, number_of}
use Rattle.verdict.proofs.Passed.{number_is}
use Rattle.register.specs.Codes.{largest}
use Rattle.task.specs.bytes.{tasks_fit}
use Rattle.layout.specs.Layout.{version_at, coded_size, register_size}
use Rattle.head.specs.Record.{length_fits, head_refusal}

-- a test's refusal is its number or none
of : (k n : ℕ) → leb n k ≡ true → (t : Bool) → refuse n t ≤ k
of k n p = refuse_each (λ (m : ℕ). m ≤ k) (omega arith) n (leb-true n k p)

-- the first of a list is at most what each is
abbrev All : ℕ → List ℕ → Type 0
All k = Each (λ (n : ℕ). n ≤ k)

first : (k : ℕ) (ns : List ℕ) → All k ns → first_of ns ≤ k
first k = first_each (λ (n : ℕ). n ≤ k) (omega arith)

-- a plan's 1 to 14
bytes : (pb : List ℕ) → record_refusal pb ≤ 14
unfolding record_refusal
bytes pb = first 14 (record_tests pb) (
  of 14 1 refl (not (eqb (length pb) 20)),
  (of 14 1 refl (not (eqb (two_bytes (get_or pb 0 0) (get_or pb 1 0)) 18)), (of 14 2 refl (not (eqb (get_or pb 2 0) 1)), (of 14 3 refl (not (coded pb)), tt))),
)

clocks : (p : Plan) → All 14 (frequency_tests p)
clocks p = (
  of 14 9 refl (usb_not60 p.usb (usb_hz p)),
  (
    of 14 10 refl (dll1_core_too_slow p.sys (sys_hz p)),
    (
      of 14 11 refl (hclk_too_fast (hclk_hz p)),
      (of 14 12 refl (pclk1_too_fast (hclk_hz p) (pclk1_hz p)), (of 14 13 refl (pclk2_too_fast (hclk_hz p) (pclk2_hz p)), (of 14 14 refl (dll2_too_fast (hclk_hz p) (maybe_whole_hz p.dll2)), tt))),
    ),
  ),
)

plan : (p : Plan) → plan_refusal p ≤ 14
unfolding plan_refusal
plan p = first 14 (plan_tests p) (
  of 14 3 refl (not (legal p)),
  (
    of 14 4 refl (core_on_absent_dll1 p),
    (of 14 5 refl (core_on_dbl96 p), (of 14 6 refl (flash_on_absent_dll p.mpi1sel p), (of 14 7 refl (flash_on_absent_dll p.mpi2sel p), (of 14 8 refl (usb_on_absent_dll2 p), clocks p)))),
  ),
)

pub verdict_most : (pb : List ℕ) → number_of (verdict pb) ≤ 14
unfolding verdict decoded
verdict_most pb = by (eqb (record_refusal pb) 0)
  where
    by : (t : Bool) → number_of (judged (cond t (Ok (plan_of pb)) (Err (record_refusal pb)))) ≤ 14
    by true = subst (λ (n : ℕ). n ≤ 14) (sym (number_is (plan_of pb))) (plan (plan_of pb))
    by false = bytes pb

-- a head's 1 to 3
pub head_most : (b : List ℕ) → head_refusal b ≤ 3
unfolding head_refusal
head_most b = first 3 _ (
  of 3 1 refl (not (length_fits b)),
  (
    of 3 2 refl (not (eqb (get_or b version_at 0) 1)),
    (of 3 3 refl (not (is_within (take coded_size (drop register_size b)) (drop register_size largest))), (of 3 3 refl (not (tasks_fit b)), tt)),
  ),
)
