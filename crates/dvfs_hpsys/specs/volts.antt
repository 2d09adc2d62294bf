-- The volts and the timing of a mode of HPSYS, pmu/dvfs.rs.
use Rattle.std.specs.Prelude.{ℕ, ℤ, pos, negsuc, ◌+ℤ◌}
use Rattle.journal.specs.Run.{Effect, ◌▸◌, store}
use Rattle.dvfs.specs.declared.hpsys.HpsysDvfsMode.{HpsysDvfsMode}
use Rattle.dvfs.specs.Hpsys.{row_of}
use Rattle.register.specs.Numbers.{BUCK_VOUT, HPSYS_TIMING, HPSYS_VOUT}

-- a whole number that is not negative
abbrev pub natural : ℤ → ℕ
natural (pos n) = n
natural (negsuc n) = 0

-- the ldo of a D mode: "offsets −5, −3, 0, 2 on reference 11"
unfoldable pub vref_of : HpsysDvfsMode → ℕ
vref_of target = natural (pos 11 +ℤ (row_of target).ldo_offset)

-- `config_hcpu_sx_mode_volt`: the S supply's buck, then its ldo
unfoldable pub sx_mode_volt : HpsysDvfsMode → Effect
sx_mode_volt target = store BUCK_VOUT (row_of target).buck ▸ store HPSYS_VOUT (row_of target).ldo

-- the memory timing of a mode
unfoldable pub timing : HpsysDvfsMode → Effect
timing target = store HPSYS_TIMING (row_of target).ulpmcr
