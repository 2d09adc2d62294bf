-- `clock_lpsys::cancel_lcpu_active_request` meets its contract: the shared tests, then the effect.
use native.Mathlib.Omega.{arith}
use mathlib.Core.List.{[]}
use Rattle.record.proofs.Refusals.{no_test}
use Rattle.call.proofs.Admitting.{lent_journal}
use Rattle.call.proofs.Ending.{call_unadmitted, call_ran}
use Rattle.clock_lpsys.specs.Calls.{cancel_lcpu}
use Rattle.clock_lpsys.proofs.cancel_lcpu_active_request.Goals as goal

pub returns-in_err-m : goal.returns-in_err-m
unfolding cancel_lcpu
returns-in_err-m c = call_unadmitted c.in_err-m.ensures [] _ _ c.from_residual.ensures.1

pub cancel-requires : goal.cancel-requires
cancel-requires c = lent_journal c.in_ok-m.ensures (omega arith)

pub returns : goal.returns
unfolding cancel_lcpu
returns c = call_ran c.in_ok-m.ensures [] no_test c.cancel.ensures.ran c.finish.ensures
