-- `clock_lpsys::wake_and_slow_lcpu` meets its contract: the shared tests, then the effect, and the frequency before it.
use native.Mathlib.Omega.{arith}
use mathlib.Core.Path.{ap, ◌∙◌}
use mathlib.Core.List.{[]}
use Rattle.record.proofs.Refusals.{no_test}
use Rattle.clock_read.specs.lpsys.{lpsys_hclk_of}
use Rattle.call.proofs.Admitting.{lent_answers, head_is}
use Rattle.call.proofs.Ending.{call_unadmitted, call_ran}
use Rattle.lpsys_request.proofs.Readings.{hz_read}
use Rattle.clock_lpsys.specs.Calls.{wake_and_slow_lcpu}
use Rattle.clock_lpsys.proofs.wake_and_slow_lcpu.Goals as goal

pub returns-in_err-m : goal.returns-in_err-m
unfolding wake_and_slow_lcpu
returns-in_err-m c = call_unadmitted c.in_err-m.ensures [] _ _ c.from_residual.ensures.1

pub wake_and_slow-requires : goal.wake_and_slow-requires
wake_and_slow-requires c = lent_answers c.in_ok-m.ensures (omega arith)

pub returns : goal.returns
unfolding wake_and_slow_lcpu
returns c =
    let before = hz_read 0 (c.get_lpsys_hclk_freq.ensures ∙ ap lpsys_hclk_of (head_is c.in_ok-m.ensures)) c.unwrap_or-before.ensures in
    rw before (call_ran c.in_ok-m.ensures [] no_test c.wake_and_slow.ensures.ran c.finish.ensures)
