-- Supply modes and rows of LPSYS, pmu/dvfs.rs.
use Rattle.std.specs.Prelude.{ℕ, cond, leb, Option, Some, None}
use Rattle.dvfs.specs.declared.lpsys.LpsysDvfsConfig.{LpsysDvfsConfig}
use Rattle.dvfs.specs.declared.lpsys.LpsysDvfsMode.{LpsysDvfsMode}
use Rattle.dvfs.specs.declared.lpsys.LpsysDvfsMode.TheVariants.{D, S}

-- `LpsysDvfsMode::from_frequency`, on truncated MHz
unfoldable pub lpsys_mode_of : ℕ → Option LpsysDvfsMode
lpsys_mode_of mhz = cond (leb mhz 24) (Some D) (cond (leb mhz 48) (Some S) None)

abbrev pub lpsys_number_of : LpsysDvfsMode → ℕ
lpsys_number_of D = 0
lpsys_number_of S = 1

-- the two rows of `LPSYS_DVFS_CONFIG`, the timing as ram_rm, ram_ra, ram_wa, rom_rm, four bits each
abbrev pub lpsys_row_of : LpsysDvfsMode → LpsysDvfsConfig
lpsys_row_of D = record { ldo = 0x6; ulpmcr = 0x0162 }
lpsys_row_of S = record { ldo = 0x8; ulpmcr = 0x1162 }
