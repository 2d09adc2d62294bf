-- What every call leaves.
use Prim.Native.Nat.{ℕ, ◌≤◌}
use mathlib.Core.List.{List}
use lib.ListN.{length}
use Rattle.call.proofs.Entries.{performed_within}
use Rattle.guard.specs.Guard.{change_call}
use Rattle.clock_config.specs.calibrate.{calibration}
use Rattle.clock_config.specs.init.{init_call}
use Rattle.clock_config.specs.reconfigure.{reconfigure_call}
use Rattle.recorded_config.specs.declared.kinds.Call.{Call}
use Rattle.recorded_config.specs.declared.kinds.Call.TheVariants.{Calibrate, Init, Reconfigure, Change}
use Rattle.recorded_config.specs.Calls.{result_of}

-- the entries of a call lie in the journal that it leaves
pub result_within : (call : Call) (x b j a : List ℕ) → (result_of call x b j a).entries ≤ length (result_of call x b j a).journal
unfolding calibration init_call reconfigure_call change_call
result_within Calibrate x b j a = performed_within _ _ _ b j
result_within Init x b j a = performed_within _ _ _ b j
result_within Reconfigure x b j a = performed_within _ _ _ b j
result_within Change x b j a = performed_within _ _ _ b j
