-- `clock_lpsys::dividers::set_lpsys_hdiv` meets its contract: the shared tests, then the store.
use native.Mathlib.Omega.{arith}
use mathlib.Core.List.{[]}
use Rattle.record.proofs.Refusals.{no_test}
use Rattle.call.proofs.Admitting.{lent_journal}
use Rattle.call.proofs.Ending.{call_unadmitted, call_ran}
use Rattle.clock_lpsys.specs.dividers.{set_lpsys_hdiv}
use Rattle.clock_lpsys.proofs.dividers.set_lpsys_hdiv.Goals as goal

pub returns-in_err-m : goal.returns-in_err-m
unfolding set_lpsys_hdiv
returns-in_err-m c = call_unadmitted c.in_err-m.ensures [] _ _ c.from_residual.ensures.1

pub set_hdiv-requires : goal.set_hdiv-requires
set_hdiv-requires c = lent_journal c.in_ok-m.ensures (omega arith)

pub returns : goal.returns
unfolding set_lpsys_hdiv
returns c = call_ran c.in_ok-m.ensures [] no_test c.set_hdiv.ensures.ran c.finish.ensures
