-- `guard::change` meets its contract: the shared tests, the plan's, its own, then the steps.
use native.Mathlib.Omega.{arith}
use mathlib.Core.Path.{◌≡◌, sym, ap, ◌∙◌}
use Rattle.plan_clocks.specs.declared.Target.{Target}
use Rattle.plan_clocks.specs.Clocks.{hclk_hz, target_of}
use Rattle.verdict.proofs.planned.Plans.{plans}
use Rattle.call.proofs.Admitting.{lent_answers}
use Rattle.call.proofs.Ending.{call_unadmitted, call_refused, call_ran}
use Rattle.guard.specs.Guard.{change_call}
use Rattle.guard.proofs.Ways.{plan_first, own_first}
use Rattle.guard.proofs.change.Goals.{In_ok-planned}
use Rattle.guard.proofs.change.Goals as goal

-- HCLK of the plan that the call goes on with
hclk : (c : In_ok-planned) → c.in_ok-planned.planned.target.hclk.0 ≡ hclk_hz c.in_ok-planned.planned.plan
unfolding target_of
hclk c = ap (λ (t : Target). t.hclk.0) (plans _ _ c.in_ok-planned.ensures).target_is

pub returns-in_err-m : goal.returns-in_err-m
unfolding change_call
returns-in_err-m c = call_unadmitted c.in_err-m.ensures _ _ _ c.from_residual.ensures.1

pub returns-in_err-planned : goal.returns-in_err-planned
unfolding change_call
returns-in_err-planned c =
    call_refused c.in_ok-m.ensures _ _ _ _ (plan_first _ _ _ c.in_err-planned.ensures) c.from_residual-in_err-planned.ensures.1

pub test-requires-clause-target_value : goal.test-requires-clause-target_value
test-requires-clause-target_value c = hclk (goal.at.test-requires-clause-target_value c).In_ok-planned

pub returns-in_err-test : goal.returns-in_err-test
unfolding change_call
returns-in_err-test c =
    let first = c.in_err-test.ensures ∙ sym (own_first _ _ _ _ c.in_ok-m.ensures c.in_ok-planned.ensures) in
    call_refused c.in_ok-m.ensures _ _ _ _ first c.from_residual-in_err-test.ensures.1

pub change-requires : goal.change-requires
change-requires c =
    let judged = plans _ _ c.in_ok-planned.ensures in
    record {
      lent = lent_answers c.in_ok-m.ensures (omega arith);
      p_value = (judged.legal_is, hclk (goal.at.change-requires c).In_ok-planned);
    }

-- what is done for the plan is done for its bytes
pub returns : goal.returns
unfolding change_call
returns c =
    let passed = own_first _ _ _ _ c.in_ok-m.ensures c.in_ok-planned.ensures ∙ sym c.in_ok-test.ensures in
    let done = rw (plans _ _ c.in_ok-planned.ensures).plan_is at c.change.ensures.ran in
    call_ran c.in_ok-m.ensures _ passed done c.finish.ensures
