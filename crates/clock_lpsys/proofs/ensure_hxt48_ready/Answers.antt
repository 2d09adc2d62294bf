-- `clock_lpsys::ensure_hxt48_ready` meets its contract: the shared tests, then the effect.
use native.Mathlib.Omega.{arith}
use mathlib.Core.List.{[]}
use Rattle.record.proofs.Refusals.{no_test}
use Rattle.call.proofs.Admitting.{lent_answers}
use Rattle.call.proofs.Ending.{call_unadmitted, call_ran}
use Rattle.clock_lpsys.specs.Calls.{ensure_hxt48}
use Rattle.clock_lpsys.proofs.ensure_hxt48_ready.Goals as goal

pub returns-in_err-m : goal.returns-in_err-m
unfolding ensure_hxt48
returns-in_err-m c = call_unadmitted c.in_err-m.ensures [] _ _ c.from_residual.ensures.1

pub hxt48_ready-requires : goal.hxt48_ready-requires
hxt48_ready-requires c = lent_answers c.in_ok-m.ensures (omega arith)

pub returns : goal.returns
unfolding ensure_hxt48
returns c = call_ran c.in_ok-m.ensures [] no_test c.hxt48_ready.ensures.ran c.finish.ensures
