-- Tests 4 to 14 of a plan: a source that the plan does not have, a frequency outside its limits, each in Hz.
use Rattle.std.specs.Prelude.{ℕ, ◌%◌, Bool, true, false, cond, not, ◌&&◌, eqb, ltb, Option, None, Some}
use Rattle.clock.specs.declared.Dll.{Dll}
use Rattle.plan.specs.declared.Plan.{Plan}

abbrev pub is_absent : Option Dll → Bool
is_absent None = true
is_absent (Some d) = false

-- "4 DLL1 core without DLL1"
unfoldable pub core_on_absent_dll1 : Plan → Bool
core_on_absent_dll1 p = eqb p.sys 3 && is_absent p.dll1

-- "5 DBL96"
unfoldable pub core_on_dbl96 : Plan → Bool
core_on_dbl96 p = eqb p.sys 2

-- "6 mpi1, 7 mpi2 on an absent DLL": select 1 names DLL1, 2 DLL2
unfoldable pub flash_on_absent_dll : ℕ → Plan → Bool
flash_on_absent_dll select p = cond (eqb select 1) (is_absent p.dll1) (eqb select 2 && is_absent p.dll2)

-- "with usb, 8 source an absent DLL2"
unfoldable pub usb_on_absent_dll2 : Plan → Bool
usb_on_absent_dll2 p = p.usb && (eqb p.usbsel 1 && is_absent p.dll2)

-- HCLK above 48 MHz
abbrev pub is_fast : ℕ → Bool
is_fast hclk = ltb 48000000 hclk

-- "with usb, .. 9 source not a multiple of 60 MHz"
unfoldable pub usb_not60 : Bool → ℕ → Bool
usb_not60 usb source = usb && not (eqb (source % 60000000) 0)

-- "10 DLL1 core below 24 MHz": the core select, 3 for DLL1, and the core clock
unfoldable pub dll1_core_too_slow : ℕ → ℕ → Bool
dll1_core_too_slow sys core = eqb sys 3 && ltb core 24000000

-- "11 HCLK above 240 MHz"
unfoldable pub hclk_too_fast : ℕ → Bool
hclk_too_fast hclk = ltb 240000000 hclk

-- "12 PCLK1 above 120 (HCLK above 48 MHz) or 48"
unfoldable pub pclk1_too_fast : ℕ → ℕ → Bool
pclk1_too_fast hclk pclk1 = ltb (cond (is_fast hclk) 120000000 48000000) pclk1

-- "13 PCLK2 above 7.5 or 6"
unfoldable pub pclk2_too_fast : ℕ → ℕ → Bool
pclk2_too_fast hclk pclk2 = ltb (cond (is_fast hclk) 7500000 6000000) pclk2

-- "14 HCLK above 48 and DLL2 above 288 before halving"
unfoldable pub dll2_too_fast : ℕ → ℕ → Bool
dll2_too_fast hclk whole = is_fast hclk && ltb 288000000 whole
