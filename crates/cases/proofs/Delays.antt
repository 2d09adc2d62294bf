-- "This goes through calibration, DLL setting, both supply changes and the LPSYS wake": the delays of each on a slow core, computed from the
-- definitions. Rounded down they would be 0; 1; 47, 47, 47; 47; 43 and 5.
use Prim.Native.Nat.{ℕ, ◌/◌, ◌%◌}
use mathlib.Core.Path.{◌≡◌, refl}
use mathlib.Core.Bool.{false, cond}
use mathlib.Core.List.{List, [], ◌∷◌}
use lib.Dec.{eqb}
use Rattle.clock.specs.Clock.{divided}
use Rattle.head.specs.Record.{blank}
use Rattle.clock_read.specs.Hpsys.{sys_of, hclk_of}
use Rattle.journal.specs.Run.{Effect, begin, unless_ended, store, delay, poll, wait, measure}
use Rattle.calibration.specs.measure.{measurement, difference, judged_difference}
use Rattle.calibration.specs.search.{next_trim, adjusted, search}
use Rattle.calibration.specs.Calibration.{calibrate, calibrate_hrc48}
use Rattle.dll.specs.Dll.{hpbg_on, vddpsw_on, dll_off, dll_on, relocked, set_dll, configure_dll}
use Rattle.dvfs.specs.declared.hpsys.HpsysDvfsMode.TheVariants.{D1, S1}
use Rattle.dvfs_hpsys.specs.volts.{vref_of, sx_mode_volt, timing}
use Rattle.dvfs_hpsys.specs.switch.{s2s_first, d2s_first, s2d_first}
use Rattle.dvfs_lpsys.specs.switch.{lpsys_d2s_first}
use Rattle.fit.specs.rail.{met, higher, rail_limit}
use Rattle.guard_steps.specs.supply.{raise}
use Rattle.lpsys_wake.specs.count.{count_up}
use Rattle.lpsys_wake.specs.Wake.{wake_first, wake}
use Rattle.cases.proofs.Cases.{at188235}

-- the cycles of the delays among entries
abbrev delays_in : List ℕ → List ℕ
delays_in [] = []
delays_in (e ∷ es) = cond (eqb (e / 16777216) 48) (e % 16777216 ∷ delays_in es) (delays_in es)

-- those of an effect on a head whose core is at 188,235 Hz
abbrev delays : Effect → List ℕ
delays f = delays_in (f (begin at188235)).entries

delay_cases :
    -- calibration: 3 us
    (delays (calibrate_hrc48 (1 ∷ 0 ∷ 0 ∷ [])) ≡ 1 ∷ [])
    -- DLL setting: 10 us
    × (delays (configure_dll 3 (record { stage = 9; half = false }) (1 ∷ [])) ≡ 2 ∷ [])
    -- the supply of HPSYS: 250 us, from D to S, within S, and in the guarded change
    × (delays (d2s_first S1) ≡ 48 ∷ [])
    × (delays (s2s_first S1) ≡ 48 ∷ [])
    × (delays (raise D1) ≡ 48 ∷ [])
    -- that of LPSYS: 250 us
    × (delays lpsys_d2s_first ≡ 48 ∷ [])
    -- the LPSYS wake: 230 us and 30 us
    × (delays (wake (1 ∷ 1 ∷ [])) ≡ 44 ∷ 6 ∷ [])
unfolding blank calibrate_hrc48 calibrate search adjusted judged_difference measurement next_trim difference configure_dll set_dll
    relocked dll_off dll_on hpbg_on vddpsw_on d2s_first s2s_first s2d_first sx_mode_volt vref_of timing raise rail_limit higher met
    lpsys_d2s_first wake wake_first count_up store delay wait measure poll unless_ended hclk_of sys_of divided
delay_cases = (refl, refl, refl, refl, refl, refl, refl)
