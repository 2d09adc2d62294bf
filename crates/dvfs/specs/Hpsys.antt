-- Supply modes and rows of HPSYS, pmu/dvfs.rs.
use Rattle.std.specs.Prelude.{ℕ, cond, ℤ, pos, negsuc, leb, Option, Some, None}
use Rattle.dvfs.specs.declared.hpsys.HpsysDvfsConfig.{HpsysDvfsConfig}
use Rattle.dvfs.specs.declared.hpsys.HpsysDvfsMode.{HpsysDvfsMode}
use Rattle.dvfs.specs.declared.hpsys.HpsysDvfsMode.TheVariants.{D0, D1, S0, S1}

-- `HpsysDvfsMode::from_frequency`, on truncated MHz: "Modes: 24 D0, 25 and 48 D1, 49 and 144 S0, 145 and 240 S1, 241 none."
unfoldable pub mode_of : ℕ → Option HpsysDvfsMode
mode_of mhz =
    cond (leb mhz 24) (Some D0)
    (cond (leb mhz 48) (Some D1)
    (cond (leb mhz 144) (Some S0)
    (cond (leb mhz 240) (Some S1)
    None)))

abbrev pub mode_number : HpsysDvfsMode → ℕ
mode_number D0 = 0
mode_number D1 = 1
mode_number S0 = 2
mode_number S1 = 3

abbrev row : ℤ → ℕ → ℕ → ℕ → HpsysDvfsConfig
row offset ldo buck timing = record { ldo_offset = offset; ldo = ldo; buck = buck; ulpmcr = timing }

-- "The table of four supply rows is kept as it is printed there, offsets −5, −3, 0, 2 on reference 11." The timing is ram_rm, ram_ra,
-- ram_wa, rom_rm, four bits each.
abbrev pub row_of : HpsysDvfsMode → HpsysDvfsConfig
row_of D0 = row (negsuc 4) 0x6 0x9 0x0160
row_of D1 = row (negsuc 2) 0x8 0xA 0x1161
row_of S0 = row (pos 0) 0xB 0xD 0x3043
row_of S1 = row (pos 2) 0xD 0xF 0x3043

-- "`get_frequency_limit` of HPSYS gives 24, 48, 144 or 240 inside `Hertz`"
abbrev pub frequency_limit : HpsysDvfsMode → ℕ
frequency_limit D0 = 24
frequency_limit D1 = 48
frequency_limit S0 = 144
frequency_limit S1 = 240
