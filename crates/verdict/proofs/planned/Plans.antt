-- What a decoded and judged plan is.
use Prim.Native.Nat.{ℕ, ◌≤◌}
use mathlib.Core.Path.{◌≡◌, refl, sym, ap, ◌∙◌}
use mathlib.Core.Bool.{Bool, true, false, cond}
use mathlib.Core.List.{List}
use native.Mathlib.Omega.{arith}
use lib.Dec.{eqb}
use Rattle.std.specs.Prelude.{Result, Ok, Err}
use borrow.Author.Tests.{eqb-false}
use Rattle.plan.specs.declared.Plan.{Plan}
use Rattle.plan.specs.Plan.{legal}
use Rattle.plan.specs.bytes.{plan_of, record_refusal, decoded}
use Rattle.plan.proofs.bytes.RoundTrip.{read_is, read_legal}
use Rattle.plan_clocks.specs.Clocks.{usb_divider, target_of}
use Rattle.plan_clocks.specs.declared.Target.{Target}
use Rattle.verdict.specs.declared.planned.Planned.{Planned}
use Rattle.verdict.specs.tests.{plan_refusal}
use Rattle.verdict.specs.Verdict.{verdict_of, judged, verdict, number_of}
use Rattle.verdict.specs.planned.{planned_by, planned}
use Rattle.verdict.proofs.Passed.{number_is}
use Rattle.verdict.proofs.Usb.{usb_divider_range}

-- bytes that are no record, and bytes that are one
verdict_unread : (pb : List ℕ) (n : ℕ) → Err n ≡ decoded pb → verdict pb ≡ Err n
unfolding verdict
verdict_unread pb n e = ap judged (sym e)

verdict_read : (pb : List ℕ) (p : Plan) → Ok p ≡ decoded pb → verdict pb ≡ verdict_of p
unfolding verdict
verdict_read pb p e = ap judged (sym e)

-- what is given of them
pub planned_unread : (pb : List ℕ) (n : ℕ) → Err n ≡ decoded pb → Err n ≡ planned pb
unfolding planned
planned_unread pb n e = rw (verdict_unread pb n e) refl

pub planned_read : (pb : List ℕ) (p : Plan) (v : Result Target ℕ) → Ok p ≡ decoded pb → v ≡ verdict_of p → planned_by p v ≡ planned pb
unfolding planned
planned_read pb p v e is = rw (is, (read_is pb p (sym e)).1, verdict_read pb p e) refl

-- a refusal is never 0
unread_number : (pb : List ℕ) (n : ℕ) → decoded pb ≡ Err n → n ≡ 0 → ⊥
unfolding decoded
unread_number pb n e z = by (eqb (record_refusal pb) 0) refl e
  where
    by : (t : Bool) → eqb (record_refusal pb) 0 ≡ t → cond t (Ok (plan_of pb)) (Err (record_refusal pb)) ≡ Err n → ⊥
    by true q h = let w : ◌≡◌ {A = ℕ} 0 1 = cc in omega arith
    by false q h = let same : record_refusal pb ≡ n = cc in eqb-false (record_refusal pb) 0 q (same ∙ z)

-- bytes that are not refused: a record, of a plan that is legal and passes its tests
pub record Taken (pb : List ℕ) : Type 0 where
  pub record_is : record_refusal pb ≡ 0
  pub legal_is : legal (plan_of pb) ≡ true
  pub tests_are : plan_refusal (plan_of pb) ≡ 0

pub taken : (pb : List ℕ) → number_of (verdict pb) ≡ 0 → Taken pb
unfolding verdict
taken pb e = by (decoded pb) refl e
  where
    by : (d : Result Plan ℕ) → decoded pb ≡ d → number_of (judged d) ≡ 0 → Taken pb
    by (Ok p) q z =
        let same = (read_is pb p q).1 in
        record {
          record_is = (read_is pb p q).0;
          legal_is = rw same (read_legal pb p q);
          tests_are = rw same (sym (number_is p) ∙ z);
        }
    by (Err n) q z = absurd (unread_number pb n q z)

usb_most : (p : Plan) → plan_refusal p ≡ 0 → (target_of p).usb_div ≤ 7
unfolding target_of usb_divider
usb_most p e = by p.usb refl
  where
    by : (u : Bool) → p.usb ≡ u → usb_divider p ≤ 7
    by true on = let most = (usb_divider_range p e on).1 in omega (arith, most)
    by false off = rw off (omega arith)

-- the number of what is given is the verdict's
by_verdict : (p : Plan) (v : Result Target ℕ) (n : ℕ) → Err n ≡ planned_by p v → n ≡ number_of v
by_verdict p (Ok t) n e = absurd cc
by_verdict p (Err m) n e = cc

pub refused : (pb : List ℕ) (n : ℕ) → Err n ≡ planned pb → n ≡ number_of (verdict pb)
unfolding planned
refused pb n e = by_verdict (plan_of pb) (verdict pb) n e

given : (p : Plan) (v : Result Target ℕ) (r : Planned) → Ok r ≡ planned_by p v → number_of v ≡ 0
given p (Ok t) r e = refl
given p (Err m) r e = absurd cc

-- the plan that nothing refuses, and what it gives
pub record Plans (pb : List ℕ) (r : Planned) : Type 0 where
  pub accepted : number_of (verdict pb) ≡ 0
  pub plan_is : r.plan ≡ plan_of pb
  pub legal_is : legal r.plan ≡ true
  pub target_is : r.target ≡ target_of r.plan
  pub usb_is : r.target.usb_div ≤ 7

accepted_is : (pb : List ℕ) → Taken pb → planned pb ≡ Ok (record { plan = plan_of pb; target = target_of (plan_of pb) })
unfolding planned decoded verdict_of
accepted_is pb t = rw (verdict_read pb (plan_of pb) (rw t.record_is refl), t.tests_are) refl

pub plans : (pb : List ℕ) (r : Planned) → Ok r ≡ planned pb → Plans pb r
unfolding planned
plans pb r e =
    let none = given (plan_of pb) (verdict pb) r e in
    let t = taken pb none in
    let is : r ≡ record { plan = plan_of pb; target = target_of (plan_of pb) } = let both = e ∙ accepted_is pb t in cc in
    record {
      accepted = none;
      plan_is = ap (λ (q : Planned). q.plan) is;
      legal_is = rw is t.legal_is;
      target_is = rw is refl;
      usb_is = rw is (usb_most (plan_of pb) t.tests_are);
    }
