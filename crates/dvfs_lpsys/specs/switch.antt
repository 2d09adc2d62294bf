-- Supply transitions of LPSYS, pmu/dvfs.rs: "Closures passed to a transition become its first and second half."
use Rattle.journal.specs.Run.{Effect, ◌▸◌, store, delay}
use Rattle.dvfs.specs.declared.lpsys.LpsysDvfsMode.TheVariants.{D, S}
use Rattle.dvfs.specs.lpsys.{lpsys_row_of}
use Rattle.register.specs.Numbers.{LPSYS_LDO, LPSYS_SUPPLY, LPSYS_TIMING, LPSYS_VOUT}

-- `switch_lpsys_dvfs_d2s` before the clock: the ldo, supply S, 250 us
unfoldable pub lpsys_d2s_first : Effect
lpsys_d2s_first = store LPSYS_VOUT (lpsys_row_of S).ldo ▸ store LPSYS_SUPPLY 1 ▸ delay 250

-- `switch_lpsys_dvfs_s2d` before the clock: the D supply's ldo; and after it: the timing, supply D
unfoldable pub lpsys_s2d_first : Effect
lpsys_s2d_first = store LPSYS_LDO (lpsys_row_of D).ldo

unfoldable pub lpsys_s2d_second : Effect
lpsys_s2d_second = store LPSYS_TIMING (lpsys_row_of D).ulpmcr ▸ store LPSYS_SUPPLY 0
