-- A fit head is safe at that moment, whatever its wake count.
use Prim.Native.Nat.{ℕ, ◌≤◌, ◌<◌}
use mathlib.Core.Path.{◌≡◌, refl}
use mathlib.Core.Bool.{Bool, true, false, cond}
use native.Mathlib.Omega.{arith}
use lib.Dec.{eqb}
use borrow.Author.Tests.{leb-true}
use Rattle.std.specs.Prelude.{Option}
use Rattle.time.specs.declared.Hertz.{Hertz}
use Rattle.head.specs.declared.Head.{Head}
use Rattle.head.specs.Head.{with_wake_count}
use Rattle.clock_read.specs.Hpsys.{reg, hertz, sys_of, hclk_of}
use Rattle.clock_read.specs.lpsys.{lpsys_sys_of, lpsys_hclk_of}
use Rattle.readings.proofs.Positive.{Least, reads, least_hclk}
use Rattle.dvfs.specs.declared.hpsys.HpsysDvfsMode.TheVariants.{D0, D1, S0, S1}
use Rattle.fit.specs.rail.{met, higher, rail_limit}
use Rattle.fit.specs.Fit.{fits}
use Rattle.claim.proofs.changes.View.{begun}
use Rattle.claim.proofs.requests.Laws.{clock_fit, first_fit, second_fit, lpsys_safe}
use Rattle.claim.specs.Claim.{Safe}

pub count_fit : (n : ℕ) (h : Head) → fits (with_wake_count n h) ≡ fits h
unfolding fits hclk_of sys_of rail_limit lpsys_hclk_of lpsys_sys_of
count_fit n h = refl

-- a rail limit above 0 is at least 24 MHz
least : (s hi lo hi' lo' : Bool) → 0 < cond s (cond hi 240000000 (cond lo 144000000 0)) (cond hi' 48000000 (cond lo' 24000000 0)) →
    24000000 ≤ cond s (cond hi 240000000 (cond lo 144000000 0)) (cond hi' 48000000 (cond lo' 24000000 0))
least true true lo hi' lo' p = omega arith
least true false true hi' lo' p = omega arith
least true false false hi' lo' p = absurd (omega (arith, p))
least false hi lo true lo' p = omega arith
least false hi lo false true p = omega arith
least false hi lo false false p = absurd (omega (arith, p))

rail_least : (h : Head) → 0 < rail_limit h → 24000000 ≤ rail_limit h
unfolding rail_limit higher
rail_least h p =
    least (eqb (reg h 12) 0) (met S1 (reg h 13) (reg h 14)) (met S0 (reg h 13) (reg h 14)) (met D1 (reg h 15) (reg h 16)) (met D0 (reg h 15) (reg h 16)) p

at_least : {n : ℕ} (r : Option Hertz) (f : ℕ) → Least n r → r ≡ hertz f → n ≤ f
at_least {n} r f l e = by (rw e at l)
  where
    by : Least n (hertz f) → n ≤ f
    by (reads p) = p

either : (t : Bool) (a b n : ℕ) → a ≤ n → b ≤ n → cond t a b ≤ n
either true a b n p q = p
either false a b n p q = q

pub safe : (h : Head) → fits h ≡ true → Safe h
safe h fit =
    let b = begun h fit in
    let carried : b.hz ≤ rail_limit h = leb-true b.hz (rail_limit h) (rw b.at at (clock_fit h fit)) in
    let positive : 47058 ≤ b.hz = at_least (hclk_of h) b.hz (least_hclk h) b.at in
    let wide = rail_least h (omega (arith, positive, carried)) in
    record {
      hclk = b.hz;
      reads = b.at;
      carried = carried;
      core = λ slow l. either (eqb (reg h 10) 0) b.hz slow (rail_limit h) carried (omega (arith, l, wide));
      lpsys = (lpsys_safe h fit).limit;
      first_flash = first_fit h fit;
      second_flash = second_fit h fit;
    }
