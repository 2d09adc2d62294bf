-- `config_hcpu_dvfs` of pmu/dvfs.rs by its modes: "Closures passed to a transition become its first and second half."
use Rattle.std.specs.Prelude.{Bool, true, false, cond, eqb}
use Rattle.journal.specs.Run.{Effect, idle}
use Rattle.dvfs.specs.declared.hpsys.HpsysDvfsMode.{HpsysDvfsMode}
use Rattle.dvfs.specs.declared.hpsys.HpsysDvfsMode.TheVariants.{D0, D1, S0, S1}
use Rattle.dvfs.specs.Hpsys.{mode_number}
use Rattle.dvfs_hpsys.specs.switch.{s2s_first, d2s_first, s2d_first, s2d_second}

-- a mode of the S supply
abbrev pub is_s : HpsysDvfsMode → Bool
is_s D0 = false
is_s D1 = false
is_s S0 = true
is_s S1 = true

-- two modes are the same
abbrev pub same_mode : HpsysDvfsMode → HpsysDvfsMode → Bool
same_mode current target = eqb (mode_number current) (mode_number target)

-- `config_hcpu_dvfs` before and after the clock, by the mode that it comes from and the one that it goes to. To a D mode it goes the same
-- way from S and from the other D: there the volts fall before the clock, as in the Rust.
unfoldable pub hpsys_first : HpsysDvfsMode → HpsysDvfsMode → Effect
hpsys_first current target =
    cond (same_mode current target) idle
    (cond (is_s target) (cond (is_s current) (s2s_first target) (d2s_first target))
    (s2d_first target))

unfoldable pub hpsys_second : HpsysDvfsMode → HpsysDvfsMode → Effect
hpsys_second current target = cond (same_mode current target) idle (cond (is_s target) idle (s2d_second target))
