-- "The USB divider of an accepted plan is 1 to 6."
use Prim.Native.Nat.{ℕ, ◌/◌, ◌%◌, ◌≤◌}
use mathlib.Core.Path.{◌≡◌, sym}
use mathlib.Core.Bool.{Bool, true, false, cond, not, ◌&&◌, false≢true}
use native.Mathlib.Omega.{arith}
use lib.Dec.{eqb}
use borrow.Author.Tests.{eqb-true, not-false}
use Rattle.std.specs.Prelude.{Option, None, Some}
use Rattle.clock.specs.declared.Dll.{Dll}
use Rattle.clock.proofs.Laws.{dll_least, dll_most}
use Rattle.plan.specs.declared.Plan.{Plan}
use Rattle.plan.specs.Code.{stage_of}
use Rattle.plan_clocks.specs.Clocks.{maybe_hz, sys_hz, usb_hz, usb_divider}
use Rattle.limits.specs.Limits.{is_absent, core_on_absent_dll1, usb_on_absent_dll2}
use Rattle.limits.specs.Limits.{usb_not60}
use Rattle.verdict.specs.tests.{plan_refusal}
use Rattle.plan.proofs.Legal.{legal_stages}
use Rattle.verdict.proofs.Passed.{Passed, passed}

-- a clock of 12 to 384 MHz
record InRange (f : ℕ) : Type 0 where
  least : 12000000 ≤ f
  most : f ≤ 384000000

present_range : (d : Option Dll) → is_absent d ≡ false → stage_of d ≤ 15 → InRange (maybe_hz d)
present_range None e h = absurd (false≢true (sym e))
present_range (Some d) e h = record { least = dll_least d.stage d.half; most = dll_most d.stage d.half h }

sys_range : (p : Plan) → Passed p → InRange (sys_hz p)
unfolding sys_hz core_on_absent_dll1
sys_range p ok = by (eqb p.sys 3) ok.test_4
  where
    by : (t : Bool) → (t && is_absent p.dll1) ≡ false → InRange (cond t (maybe_hz p.dll1) 48000000)
    by true e = present_range p.dll1 e (legal_stages p ok.test_3).0
    by false e = record { least = omega arith; most = omega arith }

usb_source_range : (p : Plan) → Passed p → p.usb ≡ true → InRange (usb_hz p)
unfolding usb_hz usb_on_absent_dll2
usb_source_range p ok on = by (eqb p.usbsel 1) (rw on at ok.test_8)
  where
    by : (t : Bool) → (t && is_absent p.dll2) ≡ false → InRange (cond t (maybe_hz p.dll2) (sys_hz p))
    by true e = present_range p.dll2 e (legal_stages p ok.test_3).1
    by false e = sys_range p ok

-- a test that is asked for and finds no fault
asked : (u t : Bool) → u ≡ true → (u && not t) ≡ false → t ≡ true
asked true t on e = not-false t e
asked false t on e = absurd (false≢true on)

pub usb_divider_range : (p : Plan) → plan_refusal p ≡ 0 → p.usb ≡ true → (1 ≤ usb_divider p) × (usb_divider p ≤ 6)
unfolding usb_divider usb_not60
usb_divider_range p e on =
    let ok = passed p e in
    let source = usb_source_range p ok on in
    let whole : usb_hz p % 60000000 ≡ 0 = eqb-true _ _ (asked p.usb (eqb (usb_hz p % 60000000) 0) on ok.test_9) in
    by p.usb on (omega arith) (omega arith)
  where
    by : (u : Bool) → u ≡ true → 1 ≤ usb_hz p / 60000000 → usb_hz p / 60000000 ≤ 6 →
        (1 ≤ cond u (usb_hz p / 60000000) 0) × (cond u (usb_hz p / 60000000) 0 ≤ 6)
    by true on least most = (least, most)
    by false on least most = absurd (false≢true on)
