-- Frequencies of LPSYS read from a head, up to HCLK: rcc/clock_lpsys.rs.
use Rattle.std.specs.Prelude.{ℕ, cond, eqb, Option}
use Rattle.time.specs.declared.Hertz.{Hertz}
use Rattle.head.specs.declared.Head.{Head}
use Rattle.register.specs.Word.{byte_a}
use Rattle.clock_read.specs.Hpsys.{reg, ready_reading, divided_reading}
use Rattle.register.specs.Numbers.{LPSYS_CFGR, LPSYS_SYSCLK}

-- 48 MHz of HRC48 (0) or HXT48 (1), where that is ready
abbrev pub source_reading : ℕ → Head → Option Hertz
source_reading select h = cond (eqb select 0) (ready_reading h.hrc48_ready) (ready_reading h.hxt48_ready)

-- `get_lpsys_sysclk_freq`
unfoldable pub lpsys_sys_of : Head → Option Hertz
lpsys_sys_of h = source_reading (reg h LPSYS_SYSCLK) h

-- `get_lpsys_hclk_freq`: hdiv1 a of register 26
unfoldable pub lpsys_hclk_of : Head → Option Hertz
lpsys_hclk_of h = divided_reading (lpsys_sys_of h) (byte_a (reg h LPSYS_CFGR))
