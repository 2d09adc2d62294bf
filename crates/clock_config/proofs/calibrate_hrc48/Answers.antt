-- `clock_config::calibrate_hrc48` meets its contract: the shared tests, 31, then the calibration.
use native.Mathlib.Omega.{arith}
use mathlib.Core.Path.{sym}
use Rattle.refusal.specs.declared.Refusal.TheVariants.{Hxt48NotReady}
use Rattle.record.proofs.Refusals.{only_test}
use Rattle.call.proofs.Admitting.{lent_answers, head_is}
use Rattle.call.proofs.Ending.{call_unadmitted, call_refused, call_ran}
use Rattle.clock_config.specs.calibrate.{calibration}
use Rattle.clock_config.proofs.calibrate_hrc48.Goals as goal

pub returns-in_err-machine : goal.returns-in_err-machine
unfolding calibration
returns-in_err-machine c = call_unadmitted c.in_err-machine.ensures _ _ _ c.from_residual.ensures.1

pub returns-then-not-machine : goal.returns-then-not-machine
unfolding calibration
returns-then-not-machine c =
    call_refused c.in_ok-machine.ensures _ Hxt48NotReady _ _ (rw (← (head_is c.in_ok-machine.ensures), c.if-not-machine.true) (sym (only_test 31))) c.from.ensures

pub calibrate_hrc48-requires : goal.calibrate_hrc48-requires
calibrate_hrc48-requires c = lent_answers c.in_ok-machine.ensures (omega arith)

pub returns : goal.returns
unfolding calibration
returns c =
    call_ran c.in_ok-machine.ensures _ (rw (← (head_is c.in_ok-machine.ensures), c.if-not-machine.false) (only_test 0)) c.calibrate_hrc48.ensures.ran c.finish.ensures
