-- `lpsys_request::frequency::ensure_safe_lcpu_frequency` meets its contract: the shared tests, 43, then the slowing.
use native.Mathlib.Omega.{arith}
use mathlib.Core.List.{[], ◌∷◌}
use mathlib.Core.Path.{◌≡◌, sym, ap, ◌∙◌}
use Rattle.refusal.specs.declared.Refusal.TheVariants.{LpsysHclkUnreadable}
use Rattle.record.proofs.Refusals.{only_test}
use Rattle.clock_read.specs.lpsys.{lpsys_hclk_of}
use Rattle.call.proofs.Admitting.{lent_journal, head_is}
use Rattle.call.proofs.Ending.{call_unadmitted, call_refused, call_ran}
use Rattle.lpsys_request.specs.frequency.{safe_frequency}
use Rattle.lpsys_request.proofs.frequency.ensure_safe_lcpu_frequency.Goals as goal

pub returns-in_err-m : goal.returns-in_err-m
unfolding safe_frequency
returns-in_err-m c = call_unadmitted c.in_err-m.ensures _ _ _ c.from_residual.ensures.1

pub returns-in_err-f : goal.returns-in_err-f
unfolding safe_frequency
returns-in_err-f c =
    let unread = ap lpsys_hclk_of (sym (head_is c.in_ok-m.ensures)) ∙ (sym c.get_lpsys_hclk_freq.ensures ∙ c.in_err-f.ensures.ok_part) in
    let refusal : c.in_err-f.field-0.0 ≡ LpsysHclkUnreadable = cc (rw c.in_err-f.ensures.ok_part at c.in_err-f.ensures.value) in
    call_refused c.in_ok-m.ensures _ _ _ _ (rw (refusal, unread, only_test 43)) c.from_residual-in_err-f.ensures.1

pub slow_down-requires : goal.slow_down-requires
slow_down-requires c = lent_journal c.in_ok-m.ensures (omega arith)

pub returns : goal.returns
unfolding safe_frequency
returns c =
    let reading = ap lpsys_hclk_of (sym (head_is c.in_ok-m.ensures)) ∙ (sym c.get_lpsys_hclk_freq.ensures ∙ c.in_ok-f.ensures.ok_part) in
    simp reading (call_ran c.in_ok-m.ensures (0 ∷ []) (only_test 0) c.slow_down.ensures.ran c.finish.ensures)
