-- `clock_config::reconfigure_sysclk` meets its contract: the shared tests, the plan's, then the transition.
use native.Mathlib.Omega.{arith}
use mathlib.Core.Path.{ap}
use Rattle.head.specs.declared.Head.{Head}
use Rattle.plan.specs.declared.Plan.{Plan}
use Rattle.plan.specs.bytes.{plan_of}
use Rattle.plan_clocks.specs.declared.Target.{Target}
use Rattle.plan_clocks.specs.Clocks.{target_of}
use Rattle.verdict.proofs.planned.Plans.{plans}
use Rattle.readings.specs.Clocks.{clocks_of}
use Rattle.call.specs.clocks.{with_audio_of}
use Rattle.call.specs.with_plan.{head_after}
use Rattle.call.proofs.Admitting.{lent_answers}
use Rattle.call.proofs.with_plan.Ending.{plan_unadmitted, plan_refused, plan_ran}
use Rattle.core_clock.specs.switch.{to_plan}
use Rattle.clock_config.specs.reconfigure.{reconfigure_call, reconfigure_clocks}
use Rattle.clock_config.proofs.reconfigure_sysclk.Goals as goal

pub returns-in_err-m : goal.returns-in_err-m
unfolding reconfigure_call reconfigure_clocks
returns-in_err-m c =
    let run = to_plan (plan_of c.args.plan.now) c.args.answers.now in
    let read = with_audio_of c.args.clocks.now (clocks_of (head_after run c.args.buffer.now)) in
    let both = plan_unadmitted c.args.plan.now _ _ _ c.in_err-m.ensures run 0 _ read c.args.clocks.now c.from_residual.ensures.1 in
    record { answers = both.0; clocks_after = both.1 }

pub returns-in_err-planned : goal.returns-in_err-planned
unfolding reconfigure_call reconfigure_clocks
returns-in_err-planned c =
    let run = to_plan (plan_of c.args.plan.now) c.args.answers.now in
    let read = with_audio_of c.args.clocks.now (clocks_of (head_after run c.args.buffer.now)) in
    let both = plan_refused _ _ _ _ c.in_ok-m.ensures _ c.in_err-planned.ensures run 0 _ read c.args.clocks.now c.from_residual-in_err-planned.ensures.1 in
    record { answers = both.0; clocks_after = both.1 }

pub config_hcpu_dvfs-requires : goal.config_hcpu_dvfs-requires
unfolding target_of
config_hcpu_dvfs-requires c =
    let judged = plans _ _ c.in_ok-planned.ensures in
    record {
      lent = lent_answers c.in_ok-m.ensures (omega arith);
      p_value = (judged.legal_is, ap (λ (t : Target). t.hclk.0) judged.target_is);
    }

pub returns : goal.returns
unfolding reconfigure_call reconfigure_clocks
returns c =
    let both = plan_ran _ _ _ _ c.in_ok-m.ensures c.in_ok-planned.ensures (λ (p : Plan). to_plan p c.args.answers.now)
    (λ (h : Head). with_audio_of c.args.clocks.now (clocks_of h)) c.args.clocks.now c.config_hcpu_dvfs.ensures.ran c.finish.ensures c.clocks_beside.ensures in
    record { answers = both.0; clocks_after = both.1 }
