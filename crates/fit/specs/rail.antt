-- The rail limit: the highest HCLK that the active supply carries, by what its registers hold.
use Rattle.std.specs.Prelude.{ℕ, ◌*◌, Bool, cond, ◌&&◌, eqb, leb}
use Rattle.head.specs.declared.Head.{Head}
use Rattle.clock_read.specs.Hpsys.{reg}
use Rattle.dvfs.specs.declared.hpsys.HpsysDvfsMode.{HpsysDvfsMode}
use Rattle.dvfs.specs.declared.hpsys.HpsysDvfsMode.TheVariants.{D0, D1, S0, S1}
use Rattle.dvfs.specs.Hpsys.{row_of, frequency_limit}
use Rattle.dvfs_hpsys.specs.volts.{vref_of}
use Rattle.register.specs.Numbers.{BUCK_VOUT, HPSYS_LDO, HPSYS_SUPPLY, HPSYS_VOUT, SET_VOUT_M}

-- the clock that a mode's row carries: 24, 48, 144 or 240 MHz
abbrev pub limit_hz : HpsysDvfsMode → ℕ
limit_hz m = frequency_limit m * 1000000

-- "reference + offset" of a D row, "the row's ldo" of an S row
abbrev pub ldo_of : HpsysDvfsMode → ℕ
ldo_of D0 = vref_of D0
ldo_of D1 = vref_of D1
ldo_of S0 = (row_of S0).ldo
ldo_of S1 = (row_of S1).ldo

-- "whose row has buck ≤ register 15 and reference + offset ≤ register 16", and the same "with registers 13, 14 and the row's ldo"
unfoldable pub met : HpsysDvfsMode → ℕ → ℕ → Bool
met m buck ldo = leb (row_of m).buck buck && leb (ldo_of m) ldo

-- "the higher of" two modes whose row is met, "else 0"
unfoldable pub higher : HpsysDvfsMode → HpsysDvfsMode → ℕ → ℕ → ℕ
higher low high buck ldo = cond (met high buck ldo) (limit_hz high) (cond (met low buck ldo) (limit_hz low) 0)

-- "Rail limit: on D, the higher of 24 and 48 MHz ..; on S, the higher of 144 and 240 MHz ..", by registers 12 to 16; "12 HPSYS supply (0 S, 1 D)"
abbrev pub rail_of : ℕ → ℕ → ℕ → ℕ → ℕ → ℕ
rail_of supply buck_s ldo_s buck_d ldo_d = cond (eqb supply 0) (higher S0 S1 buck_s ldo_s) (higher D0 D1 buck_d ldo_d)

unfoldable pub rail_limit : Head → ℕ
rail_limit h = rail_of (reg h HPSYS_SUPPLY) (reg h BUCK_VOUT) (reg h HPSYS_VOUT) (reg h SET_VOUT_M) (reg h HPSYS_LDO)
