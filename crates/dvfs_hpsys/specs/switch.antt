-- Supply transitions of HPSYS, pmu/dvfs.rs: "Closures passed to a transition become its first and second half."
use Rattle.journal.specs.Run.{Effect, ◌▸◌, store, delay}
use Rattle.dvfs.specs.declared.hpsys.HpsysDvfsMode.{HpsysDvfsMode}
use Rattle.dvfs.specs.Hpsys.{row_of}
use Rattle.dvfs_hpsys.specs.volts.{vref_of, sx_mode_volt, timing}
use Rattle.register.specs.Numbers.{HPSYS_LDO, HPSYS_SUPPLY, SET_VOUT_M}

-- between the S modes before the clock: the volts, 250 us
unfoldable pub s2s_first : HpsysDvfsMode → Effect
s2s_first target = sx_mode_volt target ▸ delay 250

-- `switch_hcpu_dvfs_d2s` before the clock: the volts, supply S, 250 us, the timing
unfoldable pub d2s_first : HpsysDvfsMode → Effect
d2s_first target = sx_mode_volt target ▸ store HPSYS_SUPPLY 0 ▸ delay 250 ▸ timing target

-- `switch_hcpu_dvfs_s2d` before the clock: the D supply's buck and ldo; and after it: the timing, supply D
unfoldable pub s2d_first : HpsysDvfsMode → Effect
s2d_first target = store SET_VOUT_M (row_of target).buck ▸ store HPSYS_LDO (vref_of target)

unfoldable pub s2d_second : HpsysDvfsMode → Effect
s2d_second target = timing target ▸ store HPSYS_SUPPLY 1
