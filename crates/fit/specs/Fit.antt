-- A fit head.
use Rattle.std.specs.Prelude.{ℕ, Bool, true, false, cond, ◌&&◌, ◌||◌, eqb, leb, Option, Some, None}
use Rattle.time.specs.declared.Hertz.{Hertz}
use Rattle.register.specs.Word.{byte_a, byte_b, byte_c}
use Rattle.head.specs.declared.Head.{Head}
use Rattle.clock_read.specs.Hpsys.{reg, hclk_of}
use Rattle.clock_read.specs.lpsys.{lpsys_hclk_of}
use Rattle.fit.specs.rail.{rail_limit}
use Rattle.register.specs.Numbers.{DLL1, DLL2, FLASH, LPSYS_SUPPLY}

-- a clock reads, and is at most a limit
abbrev pub within : Option Hertz → ℕ → Bool
within (Some f) limit = leb f.0 limit
within None limit = false

-- a flash select names no DLL that is off: 1 DLL1, 2 DLL2, "on a" of registers 3 and 4
unfoldable pub source_is_on : ℕ → ℕ → ℕ → Bool
source_is_on select dll1 dll2 = cond (eqb select 1) (eqb (byte_a dll1) 1) (cond (eqb select 2) (eqb (byte_a dll2) 1) true)

-- "the LPSYS source is ready, and LPSYS HCLK above 24 MHz has supply S": "28 LPSYS supply (0 D, 1 S)"
abbrev pub lpsys_fit : Option Hertz → ℕ → Bool
lpsys_fit (Some f) supply = leb f.0 24000000 || eqb supply 1
lpsys_fit None supply = false

-- "A head is fit when HCLK reads, is at most the rail limit, no flash select names a DLL that is off, the LPSYS source is ready, and
-- LPSYS HCLK above 24 MHz has supply S."
unfoldable pub fits : Head → Bool
fits h =
    within (hclk_of h) (rail_limit h)
    && (source_is_on (byte_b (reg h FLASH)) (reg h DLL1) (reg h DLL2)
    && (source_is_on (byte_c (reg h FLASH)) (reg h DLL1) (reg h DLL2)
    && lpsys_fit (lpsys_hclk_of h) (reg h LPSYS_SUPPLY)))
