-- The source and the divider of an LPSYS request.
use Prim.Native.Nat.{ℕ, ◌*◌, ◌/◌, ◌≤◌}
use mathlib.Core.Path.{◌≡◌, refl}
use mathlib.Core.Bool.{Bool, true, false, cond}
use native.Mathlib.Omega.{arith}
use native.Mathlib.Nat.{div-le_of_le-mul, le-div_iff_mul-le}
use lib.Dec.{eqb, leb}
use borrow.Author.Tests.{lt-leb}
use Rattle.time.specs.Frequency.{hz_or}
use Rattle.head.specs.declared.Head.{Head}
use Rattle.clock_read.specs.Hpsys.{reg, ready_reading}
use Rattle.clock_read.specs.lpsys.{lpsys_sys_of}
use Rattle.lpsys_request.specs.modes.{divider_for}

-- the LPSYS source gives 48 MHz or does not read
ready_48 : (t : Bool) → hz_or 48000000 (ready_reading t) ≡ 48000000
ready_48 true = refl
ready_48 false = refl

pub source_48 : (h : Head) → hz_or 48000000 (lpsys_sys_of h) ≡ 48000000
unfolding lpsys_sys_of
source_48 h = by (eqb (reg h 25) 0)
  where
    by : (t : Bool) → hz_or 48000000 (cond t (ready_reading h.hrc48_ready) (ready_reading h.hxt48_ready)) ≡ 48000000
    by true = ready_48 h.hrc48_ready
    by false = ready_48 h.hxt48_ready

-- so a divider is at most 48
pub divider_most : (mhz : ℕ) → 1 ≤ mhz → 48000000 / (mhz * 1000000) ≤ 48
divider_most mhz h = div-le_of_le-mul (mhz * 1000000) (omega arith)

-- a request of at most 24 MHz gets a divider of 2 or more, and none is above 48
pub divider_slow : (f : ℕ) (h : Head) → 1 ≤ f → f ≤ 24 → 2 ≤ divider_for f h
unfolding divider_for
divider_slow f h p q = rw (source_48 h, lt-leb 48000000 (f * 1000000) (omega arith)) ((le-div_iff_mul-le {k = f * 1000000} {x = 2} {y = 48000000} (omega arith)).1 (omega arith))

pub divider_small : (f : ℕ) (h : Head) → 1 ≤ f → divider_for f h ≤ 48
unfolding divider_for
divider_small f h p = rw (source_48 h) (by (leb 48000000 (f * 1000000)))
  where
    by : (t : Bool) → cond t 0 (48000000 / (f * 1000000)) ≤ 48
    by true = omega arith
    by false = divider_most f p
