-- What the calls of rcc/clock_config.rs and the guarded change leave, given a plan's bytes.
use Rattle.std.specs.Prelude.{ℕ, List}
use Rattle.call.specs.Call.{Left}
use Rattle.guard.specs.Guard.{change_call}
use Rattle.clock_config.specs.calibrate.{calibration}
use Rattle.clock_config.specs.init.{init_call, init_clocks}
use Rattle.clock_config.specs.reconfigure.{reconfigure_call, reconfigure_clocks}
use Rattle.recorded_config.specs.declared.kinds.Call.{Call}
use Rattle.recorded_config.specs.declared.kinds.Call.TheVariants.{Calibrate, Init, Reconfigure, Change}

-- what a call leaves of a head's buffer and a journal, given a plan's bytes and answers
abbrev pub result_of : Call → List ℕ → List ℕ → List ℕ → List ℕ → Left
result_of Calibrate pb b j a = calibration b j a
result_of Init pb b j a = init_call pb b j a
result_of Reconfigure pb b j a = reconfigure_call pb b j a
result_of Change pb b j a = change_call pb b j a

-- the clocks that it leaves
abbrev pub clocks_after : Call → List ℕ → List ℕ → List ℕ → List ℕ → List ℕ → List ℕ
clocks_after Calibrate former pb b j a = former
clocks_after Init former pb b j a = init_clocks pb b j a
clocks_after Reconfigure former pb b j a = reconfigure_clocks former pb b j a
clocks_after Change former pb b j a = former
