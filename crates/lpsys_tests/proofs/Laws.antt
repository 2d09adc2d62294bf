-- What is not refused is within its range.
use Prim.Native.Nat.{ℕ, ◌≤◌}
use mathlib.Core.Path.{◌≡◌}
use mathlib.Core.Bool.{◌||◌}
use native.Mathlib.Omega.{arith}
use lib.Dec.{eqb, ltb}
use borrow.Author.Tests.{eqb-false, ltb-false}
use Rattle.record.proofs.Bytes.{or_left, or_right}
use Rattle.record.proofs.Refusals.{not_refused}
use Rattle.lpsys_tests.specs.Tests.{out_of_range, request_refusal, div_refusal}

pub request_range : (f : ℕ) → request_refusal f ≡ 0 → (1 ≤ f) × (f ≤ 48)
request_range f e =
    let fits = not_refused 14 (out_of_range f) e in
    (omega (arith, eqb-false f 0 (or_left (eqb f 0) (ltb 48 f) fits)), ltb-false 48 f (or_right (eqb f 0) (ltb 48 f) fits))

pub div_range : (pdiv1 pdiv2 : ℕ) → div_refusal pdiv1 pdiv2 ≡ 0 → (pdiv1 ≤ 7) × (pdiv2 ≤ 7)
div_range pdiv1 pdiv2 e =
    let fits = not_refused 2 (ltb 7 pdiv1 || ltb 7 pdiv2) e in
    (ltb-false 7 pdiv1 (or_left (ltb 7 pdiv1) (ltb 7 pdiv2) fits), ltb-false 7 pdiv2 (or_right (ltb 7 pdiv1) (ltb 7 pdiv2) fits))
