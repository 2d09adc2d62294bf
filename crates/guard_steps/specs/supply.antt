-- The supply in the guarded change: document 01's steps (1) and (8), each as an effect on a running call.
use Rattle.std.specs.Prelude.{cond, ltb}
use Rattle.head.specs.declared.Head.{Head}
use Rattle.journal.specs.Run.{Effect, ◌▸◌, idle, store, delay}
use Rattle.dvfs.specs.declared.hpsys.HpsysDvfsMode.{HpsysDvfsMode}
use Rattle.dvfs.specs.declared.hpsys.HpsysDvfsMode.TheVariants.{D0, D1, S0, S1}
use Rattle.dvfs_hpsys.specs.volts.{sx_mode_volt, timing}
use Rattle.dvfs_hpsys.specs.switch.{d2s_first, s2d_first, s2d_second}
use Rattle.fit.specs.rail.{limit_hz, rail_limit}
use Rattle.register.specs.Numbers.{HPSYS_SUPPLY}

-- "(1) if the rail limit is below peak's, store peak's buck, then ldo, in the registers of peak's supply; for an S peak also register 12;
-- delay 250 us; for an S peak the timing"
abbrev pub raising : HpsysDvfsMode → Effect
raising D0 = s2d_first D0 ▸ delay 250
raising D1 = s2d_first D1 ▸ delay 250
raising S0 = d2s_first S0
raising S1 = d2s_first S1

abbrev pub raise_on : HpsysDvfsMode → Head → Effect
raise_on peak h = cond (ltb (rail_limit h) (limit_hz peak)) (raising peak) idle

unfoldable pub raise : HpsysDvfsMode → Effect
raise peak r = raise_on peak r.head r

-- "(8) buck and ldo of the target's row in its supply's registers, timing, register 12"
abbrev pub target_rails : HpsysDvfsMode → Effect
target_rails D0 = s2d_first D0 ▸ s2d_second D0
target_rails D1 = s2d_first D1 ▸ s2d_second D1
target_rails S0 = sx_mode_volt S0 ▸ timing S0 ▸ store HPSYS_SUPPLY 0
target_rails S1 = sx_mode_volt S1 ▸ timing S1 ▸ store HPSYS_SUPPLY 0
