-- `lpsys_request::frequency::config_lpsys_hclk_mhz` meets its contract: the shared tests, 15, then the request.
use native.Mathlib.Omega.{arith}
use mathlib.Core.Path.{sym, ◌∙◌}
use Rattle.record.proofs.Refusals.{only_test}
use Rattle.call.proofs.Admitting.{lent_journal}
use Rattle.call.proofs.Ending.{call_unadmitted, call_refused, call_ran}
use Rattle.lpsys_request.specs.frequency.{lpsys_request}
use Rattle.lpsys_request.proofs.frequency.config_lpsys_hclk_mhz.Goals as goal

pub returns-in_err-m : goal.returns-in_err-m
unfolding lpsys_request
returns-in_err-m c = call_unadmitted c.in_err-m.ensures _ _ _ c.from_residual.ensures.1

pub returns-in_err-test_request : goal.returns-in_err-test_request
unfolding lpsys_request
returns-in_err-test_request c =
    let test = c.in_err-test_request.ensures ∙ sym (only_test _) in
    call_refused c.in_ok-m.ensures _ _ _ _ test c.from_residual-in_err-test_request.ensures.1

pub request-requires-clause-lent : goal.request-requires-clause-lent
request-requires-clause-lent c = lent_journal c.in_ok-m.ensures (omega arith)

pub returns : goal.returns
unfolding lpsys_request
returns c =
    let test = only_test _ ∙ sym c.in_ok-test_request.ensures in
    call_ran c.in_ok-m.ensures _ test c.request.ensures.ran c.finish.ensures
