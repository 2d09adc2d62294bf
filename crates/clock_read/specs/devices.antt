-- The frequencies of USB, the watchdog and flash, read from a head: rcc/clock_read.rs.
use Rattle.std.specs.Prelude.{ℕ, cond, eqb, Option}
use Rattle.time.specs.declared.Hertz.{Hertz}
use Rattle.head.specs.declared.Head.{Head}
use Rattle.register.specs.Word.{byte_c}
use Rattle.clock_read.specs.Hpsys.{reg, hertz, dll_reading, divided_reading, sys_of}
use Rattle.register.specs.Numbers.{DLL1, DLL2, LOW_POWER, USB_DIVIDER, USB_SOURCE}

-- `get_clk_usb_source`: 0 the core's clock, 1 DLL2
unfoldable pub usb_source : Head → Option Hertz
usb_source h = cond (eqb (reg h USB_SOURCE) 1) (dll_reading (reg h DLL2)) (sys_of h)

-- `get_clk_usb_freq`
unfoldable pub usb_of : Head → Option Hertz
usb_of h = divided_reading (usb_source h) (byte_c (reg h USB_DIVIDER))

-- `get_clk_wdt_freq`: 0 Lrc10, 1 Lrc32
unfoldable pub wdt_of : Head → Option Hertz
wdt_of h = cond (eqb (reg h LOW_POWER) 0) (hertz 100000) (hertz 32000)

-- `get_clk_mpi1_freq` and `get_clk_mpi2_freq` of a flash select: 1 DLL1, 2 DLL2; Peri is 48 MHz from either source, and "a reserved
-- flash select" reads "as 48 MHz"
unfoldable pub flash_of : ℕ → Head → Option Hertz
flash_of select h = cond (eqb select 1) (dll_reading (reg h DLL1)) (cond (eqb select 2) (dll_reading (reg h DLL2)) (hertz 48000000))
