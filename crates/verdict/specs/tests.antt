-- The tests of a plan: `ConfigBuilder::check`.
use Rattle.std.specs.Prelude.{ℕ, List, [], ◌∷◌, not}
use Rattle.record.specs.Refusals.{refuse, first_of}
use Rattle.plan.specs.declared.Plan.{Plan}
use Rattle.plan.specs.Plan.{legal}
use Rattle.plan_clocks.specs.Clocks.{maybe_whole_hz, sys_hz, hclk_hz, pclk1_hz, pclk2_hz, usb_hz}
use Rattle.limits.specs.Limits.{core_on_absent_dll1, core_on_dbl96, flash_on_absent_dll, usb_on_absent_dll2}
use Rattle.limits.specs.Limits.{usb_not60, dll1_core_too_slow, hclk_too_fast, pclk1_too_fast, pclk2_too_fast, dll2_too_fast}

-- the tests of a plan's frequencies, 9 to 14
abbrev pub frequency_tests : Plan → List ℕ
frequency_tests p =
    refuse 9 (usb_not60 p.usb (usb_hz p))
    ∷ refuse 10 (dll1_core_too_slow p.sys (sys_hz p))
    ∷ refuse 11 (hclk_too_fast (hclk_hz p))
    ∷ refuse 12 (pclk1_too_fast (hclk_hz p) (pclk1_hz p))
    ∷ refuse 13 (pclk2_too_fast (hclk_hz p) (pclk2_hz p))
    ∷ refuse 14 (dll2_too_fast (hclk_hz p) (maybe_whole_hz p.dll2))
    ∷ []

-- the tests of a plan value in document 01's order
abbrev pub plan_tests : Plan → List ℕ
plan_tests p =
    refuse 3 (not (legal p))
    ∷ refuse 4 (core_on_absent_dll1 p)
    ∷ refuse 5 (core_on_dbl96 p)
    ∷ refuse 6 (flash_on_absent_dll p.mpi1sel p)
    ∷ refuse 7 (flash_on_absent_dll p.mpi2sel p)
    ∷ refuse 8 (usb_on_absent_dll2 p)
    ∷ frequency_tests p

-- the refusal of a plan value, 0 for an accepted one
unfoldable pub plan_refusal : Plan → ℕ
plan_refusal p = first_of (plan_tests p)
