-- Rail limits of document 01 on both sides of each row, computed on heads.
use Prim.Native.Nat.{ℕ}
use mathlib.Core.Path.{◌≡◌, refl}
use lib.ListN.{set, replicate}
use Rattle.register.specs.Numbers.{BUCK_VOUT, HPSYS_LDO, HPSYS_SUPPLY, HPSYS_VOUT, SET_VOUT_M}
use Rattle.head.specs.declared.Head.{Head}
use Rattle.head.specs.Head.{with_registers}
use Rattle.head.specs.Record.{blank}
use Rattle.dvfs_hpsys.specs.volts.{vref_of}
use Rattle.fit.specs.rail.{met, higher, rail_limit}

-- a head on supply D with this buck and this vref, one on supply S with this buck and this ldo
abbrev on_d : ℕ → ℕ → Head
on_d buck vref = with_registers (set (set (set (replicate 35 0) HPSYS_SUPPLY 1) SET_VOUT_M buck) HPSYS_LDO vref) blank

abbrev on_s : ℕ → ℕ → Head
on_s buck ldo = with_registers (set (set (set (replicate 35 0) HPSYS_SUPPLY 0) BUCK_VOUT buck) HPSYS_VOUT ldo) blank

rail_cases :
    -- "on D, the higher of 24 and 48 MHz whose row has buck ≤ register 15 and reference + offset ≤ register 16"
    (rail_limit (on_d 10 8) ≡ 48000000)
    × (rail_limit (on_d 10 7) ≡ 24000000)
    × (rail_limit (on_d 9 6) ≡ 24000000)
    × (rail_limit (on_d 8 15) ≡ 0)
    -- "on S, the higher of 144 and 240 MHz with registers 13, 14 and the row's ldo; else 0"
    × (rail_limit (on_s 15 13) ≡ 240000000)
    × (rail_limit (on_s 15 12) ≡ 144000000)
    × (rail_limit (on_s 13 11) ≡ 144000000)
    × (rail_limit (on_s 12 15) ≡ 0)
unfolding rail_limit higher met vref_of blank
rail_cases = (refl, refl, refl, refl, refl, refl, refl, refl)
