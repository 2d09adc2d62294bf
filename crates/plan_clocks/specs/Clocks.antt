-- The clocks that a plan gives.
use Rattle.std.specs.Prelude.{ℕ, ◌/◌, cond, eqb, Option, None, Some}
use Rattle.clock.specs.declared.Dll.{Dll}
use Rattle.clock.specs.Clock.{whole_hz, dll_hz, divided, shifted}
use Rattle.plan.specs.declared.Plan.{Plan}
use Rattle.plan_clocks.specs.declared.Sources.{Sources}
use Rattle.plan_clocks.specs.declared.Target.{Target}

-- a DLL's frequency in Hz, whole or halved; of an absent one 0, which no test below asks for
abbrev pub maybe_hz : Option Dll → ℕ
maybe_hz None = 0
maybe_hz (Some d) = dll_hz d.stage d.half

-- a DLL's frequency before halving
abbrev pub maybe_whole_hz : Option Dll → ℕ
maybe_whole_hz None = 0
maybe_whole_hz (Some d) = whole_hz d.stage

-- the core clock, `get_sysclk_freq_hz`: DLL1's where the select is 3; "HRC48 and HXT48 give 48,000,000."
unfoldable pub sys_hz : Plan → ℕ
sys_hz p = cond (eqb p.sys 3) (maybe_hz p.dll1) 48000000

-- "HCLK is the core clock divided by hdiv, rounded down"
unfoldable pub hclk_hz : Plan → ℕ
hclk_hz p = divided (sys_hz p) p.hdiv

-- "PCLK1 and PCLK2 are HCLK shifted right by their exponents."
unfoldable pub pclk1_hz : Plan → ℕ
pclk1_hz p = shifted (hclk_hz p) p.pdiv1

unfoldable pub pclk2_hz : Plan → ℕ
pclk2_hz p = shifted (hclk_hz p) p.pdiv2

-- the USB source's clock: 0 the core's, 1 DLL2's
unfoldable pub usb_hz : Plan → ℕ
usb_hz p = cond (eqb p.usbsel 1) (maybe_hz p.dll2) (sys_hz p)

-- the clocks that HCLK and USB are divided from
unfoldable pub sources_of : Plan → Sources
sources_of p = record { core = record { 0 = sys_hz p }; usb = record { 0 = usb_hz p } }

-- the USB divider of a plan with usb, 0 of one without
unfoldable pub usb_divider : Plan → ℕ
usb_divider p = cond p.usb (usb_hz p / 60000000) 0

-- what an accepted plan gives
unfoldable pub target_of : Plan → Target
target_of p = record {
  hclk = record { 0 = hclk_hz p };
  pclk1 = record { 0 = pclk1_hz p };
  pclk2 = record { 0 = pclk2_hz p };
  usb_div = usb_divider p;
}
