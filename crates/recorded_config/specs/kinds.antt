-- The clocks that the calls of rcc/clock_config.rs and the guarded change are lent.
use Rattle.std.specs.Prelude.{ℕ}
use Rattle.recorded_config.specs.declared.kinds.Call.{Call}
use Rattle.recorded_config.specs.declared.kinds.Call.TheVariants.{Calibrate, Init, Reconfigure, Change}

-- how many clocks a call is lent: `init` the new ones to write, `reconfigure_sysclk` the former ones
abbrev pub lent_clocks : Call → ℕ
lent_clocks Calibrate = 0
lent_clocks Init = 15
lent_clocks Reconfigure = 15
lent_clocks Change = 0
