-- The transitions of LPSYS by their modes: pmu/dvfs.rs, `config_lpsys_dvfs`.
use Rattle.journal.specs.Run.{Effect, idle}
use Rattle.dvfs.specs.declared.lpsys.LpsysDvfsMode.{LpsysDvfsMode}
use Rattle.dvfs.specs.declared.lpsys.LpsysDvfsMode.TheVariants.{D, S}
use Rattle.dvfs_lpsys.specs.switch.{lpsys_d2s_first, lpsys_s2d_first, lpsys_s2d_second}

-- `config_lpsys_dvfs` before and after the clock, by the mode that it comes from and the one that it goes to
abbrev pub lpsys_first : LpsysDvfsMode → LpsysDvfsMode → Effect
lpsys_first D D = idle
lpsys_first D S = lpsys_d2s_first
lpsys_first S D = lpsys_s2d_first
lpsys_first S S = idle

abbrev pub lpsys_second : LpsysDvfsMode → LpsysDvfsMode → Effect
lpsys_second D target = idle
lpsys_second S D = lpsys_s2d_second
lpsys_second S S = idle
