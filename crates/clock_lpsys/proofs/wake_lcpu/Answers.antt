-- `clock_lpsys::wake_lcpu` meets its contract: the shared tests, then the effect.
use native.Mathlib.Omega.{arith}
use mathlib.Core.List.{[]}
use Rattle.record.proofs.Refusals.{no_test}
use Rattle.call.proofs.Admitting.{lent_answers}
use Rattle.call.proofs.Ending.{call_unadmitted, call_ran}
use Rattle.clock_lpsys.specs.Calls.{wake_lcpu}
use Rattle.clock_lpsys.proofs.wake_lcpu.Goals as goal

pub returns-in_err-m : goal.returns-in_err-m
unfolding wake_lcpu
returns-in_err-m c = call_unadmitted c.in_err-m.ensures [] _ _ c.from_residual.ensures.1

pub wake-requires : goal.wake-requires
wake-requires c = lent_answers c.in_ok-m.ensures (omega arith)

pub returns : goal.returns
unfolding wake_lcpu
returns c = call_ran c.in_ok-m.ensures [] no_test c.wake.ensures.ran c.finish.ensures
