-- Limits of the supply modes that no call asks for, pmu/dvfs.rs.
use Rattle.std.specs.Prelude.{ℕ}
use Rattle.dvfs.specs.declared.hpsys.HpsysDvfsMode.{HpsysDvfsMode}
use Rattle.dvfs.specs.declared.hpsys.HpsysDvfsMode.TheVariants.{D0, D1, S0, S1}
use Rattle.dvfs.specs.declared.lpsys.LpsysDvfsMode.{LpsysDvfsMode}
use Rattle.dvfs.specs.declared.lpsys.LpsysDvfsMode.TheVariants.{D, S}

-- `get_dll2_limit`
abbrev pub dll2_limit : HpsysDvfsMode → ℕ
dll2_limit D0 = 0
dll2_limit D1 = 0
dll2_limit S0 = 288000000
dll2_limit S1 = 288000000

-- `get_frequency_limit` of LPSYS, in Hz
abbrev pub lpsys_frequency_limit : LpsysDvfsMode → ℕ
lpsys_frequency_limit D = 24000000
lpsys_frequency_limit S = 48000000
