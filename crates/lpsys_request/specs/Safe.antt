-- The limit of the LPSYS clock on its D supply.
use Rattle.std.specs.Prelude.{ℕ, ◌≤◌, ◌≡◌, List, get_or}
use Rattle.clock.specs.Clock.{divided}
use Rattle.register.specs.Numbers.{LPSYS_CFGR, LPSYS_SUPPLY}
use Rattle.register.specs.Word.{byte_a}

-- "LPSYS runs at 48,000,000 Hz over register 26's a, 0 as 1, rounded down."
unfoldable pub lpsys_hz : List ℕ → ℕ
lpsys_hz regs = divided 48000000 (byte_a (get_or regs LPSYS_CFGR 0))

-- "LPSYS runs at no more than 24 MHz while on its D supply"; "28 LPSYS supply (0 D, 1 S)"
pub record LpsysSafe (regs : List ℕ) : Type 0 where
  pub limit : get_or regs LPSYS_SUPPLY 0 ≡ 0 → lpsys_hz regs ≤ 24000000
