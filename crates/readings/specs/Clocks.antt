-- The frequencies of a head in their order, and the calls on its bytes.
use Rattle.std.specs.Prelude.{ℕ, cond, List, [], ◌∷◌, eqb}
use Rattle.time.specs.MaybeHertz.{maybe}
use Rattle.clock.specs.declared.Clocks.{Clocks}
use Rattle.head.specs.declared.Head.{Head}
use Rattle.register.specs.Word.{byte_b, byte_c}
use Rattle.head.specs.Record.{head_refusal}
use Rattle.clock_read.specs.Hpsys.{reg, dll_reading, sys_of, hclk_of}
use Rattle.clock_read.specs.devices.{usb_of, wdt_of, flash_of}
use Rattle.clock_read.specs.lpsys.{lpsys_sys_of, lpsys_hclk_of}
use Rattle.clock_read.specs.buses.{pclk_of, pclk2_of, lpsys_pclk1_of, lpsys_pclk2_of, lpsys_peri_of, lpsys_mac_of}
use Rattle.register.specs.Numbers.{DLL1, DLL2, FLASH}

-- `read_hpsys_clocks_from_hw`: the 15 frequencies of `Clocks`, 0 for none. The peripheral clock is 48 MHz from either source, its half 24,
-- the RTC's 100,000 Hz; the audio PLL pair is none.
unfoldable pub clocks_of : Head → List ℕ
clocks_of h =
    maybe (sys_of h)
    ∷ maybe (hclk_of h)
    ∷ maybe (pclk_of h)
    ∷ maybe (pclk2_of h)
    ∷ maybe (dll_reading (reg h DLL1))
    ∷ maybe (dll_reading (reg h DLL2))
    ∷ 48000000
    ∷ 24000000
    ∷ maybe (usb_of h)
    ∷ maybe (wdt_of h)
    ∷ 100000
    ∷ maybe (flash_of (byte_b (reg h FLASH)) h)
    ∷ maybe (flash_of (byte_c (reg h FLASH)) h)
    ∷ 0
    ∷ 0
    ∷ []

-- the six frequencies of LPSYS: sysclk, hclk, pclk1, pclk2, peripheral, MAC
unfoldable pub lpsys_of : Head → List ℕ
lpsys_of h =
    maybe (lpsys_sys_of h)
    ∷ maybe (lpsys_hclk_of h)
    ∷ maybe (lpsys_pclk1_of h)
    ∷ maybe (lpsys_pclk2_of h)
    ∷ maybe (lpsys_peri_of h)
    ∷ maybe (lpsys_mac_of h)
    ∷ []

-- the numbers of a `Clocks` in the order of the source
abbrev pub in_order : Clocks → List ℕ
in_order c =
    c.sysclk.0
    ∷ c.hclk.0
    ∷ c.pclk.0
    ∷ c.pclk2.0
    ∷ c.dll1.0
    ∷ c.dll2.0
    ∷ c.clk_peri.0
    ∷ c.clk_peri_div2.0
    ∷ c.clk_usb.0
    ∷ c.clk_wdt.0
    ∷ c.clk_rtc.0
    ∷ c.clk_mpi1.0
    ∷ c.clk_mpi2.0
    ∷ c.clk_aud_pll.0
    ∷ c.clk_aud_pll_div16.0
    ∷ []

-- what a call that reads a head leaves in a lent list: the frequencies, or what it held where the head is refused
abbrev pub unless_refused : List ℕ → List ℕ → List ℕ → List ℕ
unless_refused b frequencies held = cond (eqb (head_refusal b) 0) frequencies held
