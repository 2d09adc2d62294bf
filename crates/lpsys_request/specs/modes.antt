-- The modes and the divider of an LPSYS request, rcc/clock_lpsys.rs, `config_lpsys_hclk_mhz`.
use Rattle.std.specs.Prelude.{ℕ, ◌*◌, ◌/◌, cond, leb, Option, Some, None}
use Rattle.time.specs.Frequency.{megahertz, hz_or}
use Rattle.head.specs.declared.Head.{Head}
use Rattle.clock_read.specs.lpsys.{lpsys_sys_of, lpsys_hclk_of}
use Rattle.dvfs.specs.declared.lpsys.LpsysDvfsMode.{LpsysDvfsMode}
use Rattle.dvfs.specs.declared.lpsys.LpsysDvfsMode.TheVariants.{D, S}
use Rattle.dvfs.specs.lpsys.{lpsys_mode_of}

-- `unwrap_or`: the mode that is found, or `m`
abbrev pub mode_or : LpsysDvfsMode → Option LpsysDvfsMode → LpsysDvfsMode
mode_or m (Some n) = n
mode_or m None = m

-- the divider for a request of `f` whole MHz: the source's clock over it, rounded down, or 0 where it is not below the source's
unfoldable pub divider_for : ℕ → Head → ℕ
divider_for f h = cond (leb (hz_or 48000000 (lpsys_sys_of h)) (f * 1000000)) 0 (hz_or 48000000 (lpsys_sys_of h) / (f * 1000000))

-- the mode of the present LPSYS HCLK, and that of a request
unfoldable pub present_mode : Head → LpsysDvfsMode
present_mode h = mode_or S (lpsys_mode_of (megahertz (hz_or 48000000 (lpsys_hclk_of h))))

unfoldable pub request_mode : ℕ → LpsysDvfsMode
request_mode f = mode_or D (lpsys_mode_of f)
