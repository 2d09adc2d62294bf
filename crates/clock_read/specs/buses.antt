-- Frequencies of the buses, and of the MAC and the peripherals of LPSYS: rcc/clock_read.rs and rcc/clock_lpsys.rs.
use Rattle.std.specs.Prelude.{ℕ, Option, Some, None}
use Rattle.time.specs.declared.Hertz.{Hertz}
use Rattle.clock.specs.Clock.{shifted}
use Rattle.head.specs.declared.Head.{Head}
use Rattle.register.specs.Word.{byte_b, byte_c}
use Rattle.clock_read.specs.Hpsys.{reg, hertz, divided_reading, hclk_of}
use Rattle.clock_read.specs.lpsys.{source_reading, lpsys_hclk_of}
use Rattle.register.specs.Numbers.{HPSYS_CFGR, LPSYS_CFGR, LPSYS_MAC, LPSYS_PERI}

-- a frequency behind a prescaler; none where there is none
abbrev pub shifted_reading : Option Hertz → ℕ → Option Hertz
shifted_reading (Some f) e = hertz (shifted f.0 e)
shifted_reading None e = None

-- `get_pclk_freq` and `get_pclk2_freq`: pdiv1 b, pdiv2 c
unfoldable pub pclk_of : Head → Option Hertz
pclk_of h = shifted_reading (hclk_of h) (byte_b (reg h HPSYS_CFGR))

unfoldable pub pclk2_of : Head → Option Hertz
pclk2_of h = shifted_reading (hclk_of h) (byte_c (reg h HPSYS_CFGR))

-- `get_lpsys_pclk1_freq` and `get_lpsys_pclk2_freq`: pdiv1 b, pdiv2 c
unfoldable pub lpsys_pclk1_of : Head → Option Hertz
lpsys_pclk1_of h = shifted_reading (lpsys_hclk_of h) (byte_b (reg h LPSYS_CFGR))

unfoldable pub lpsys_pclk2_of : Head → Option Hertz
lpsys_pclk2_of h = shifted_reading (lpsys_hclk_of h) (byte_c (reg h LPSYS_CFGR))

-- `get_lpsys_clk_peri_freq`
unfoldable pub lpsys_peri_of : Head → Option Hertz
lpsys_peri_of h = source_reading (reg h LPSYS_PERI) h

-- `get_lpsys_mac_clk_freq`: macdiv b of register 34
unfoldable pub lpsys_mac_of : Head → Option Hertz
lpsys_mac_of h = divided_reading (lpsys_hclk_of h) (byte_b (reg h LPSYS_MAC))
