-- `clock_config::init` meets its contract: the shared tests, the plan's, then the run.
use native.Mathlib.Omega.{arith}
use Prim.Native.Nat.{ℕ}
use mathlib.Core.Path.{◌≡◌, refl, ap, ◌∙◌}
use lib.ListN.{replicate}
use Rattle.std.specs.Prelude.{Option, Some, None, MatchOption}
use Rattle.refusal.specs.declared.Refusal.{Refusal}
use Rattle.refusal.specs.Refusal.{number, number_or_zero}
use Rattle.head.specs.Record.{head_of}
use Rattle.plan.specs.declared.Plan.{Plan}
use Rattle.plan.specs.bytes.{plan_of}
use Rattle.verdict.proofs.planned.Plans.{plans}
use Rattle.readings.specs.Clocks.{clocks_of}
use Rattle.journal.specs.Run.{begin}
use Rattle.call.specs.with_plan.{head_after}
use Rattle.call.proofs.Admitting.{lent_answers}
use Rattle.call.proofs.with_plan.Ending.{plan_unadmitted, plan_refused, plan_ran, finishes_as}
use Rattle.clock_init.specs.Init.{init, init_warning}
use Rattle.clock_config.specs.init.{init_call, init_clocks}
use Rattle.clock_config.proofs.init.Goals as goal

pub returns-in_err-m : goal.returns-in_err-m
unfolding init_call init_clocks
returns-in_err-m c =
    let run = init (plan_of c.args.plan.now) c.args.answers.now in
    let warning = init_warning (plan_of c.args.plan.now) c.args.answers.now (begin (head_of c.args.buffer.now)) in
    let both = plan_unadmitted c.args.plan.now _ _ _ c.in_err-m.ensures run warning _ (clocks_of (head_after run c.args.buffer.now)) (replicate 15 0) c.from_residual.ensures.1 in
    record { answers = both.0; clocks_after = both.1 }

pub returns-in_err-planned : goal.returns-in_err-planned
unfolding init_call init_clocks
returns-in_err-planned c =
    let run = init (plan_of c.args.plan.now) c.args.answers.now in
    let warning = init_warning (plan_of c.args.plan.now) c.args.answers.now (begin (head_of c.args.buffer.now)) in
    let both = plan_refused _ _ _ _ c.in_ok-m.ensures _ c.in_err-planned.ensures run warning _ (clocks_of (head_after run c.args.buffer.now)) (replicate 15 0)
    c.from_residual-in_err-planned.ensures.1 in
    record { answers = both.0; clocks_after = both.1 }

pub init-warning-requires : goal.init-warning-requires
init-warning-requires c =
    let judged = plans _ _ c.in_ok-planned.ensures in
    record { lent = lent_answers c.in_ok-m.ensures (omega arith); p_value = (judged.legal_is, (judged.target_is, judged.usb_is)) }

-- the warning by its number
by_number : {w : ℕ} (o : Option Refusal) → MatchOption o (w ≡ 0) (λ (x : Refusal). w ≡ number x) → w ≡ number_or_zero o
by_number None e = e
by_number (Some x) e = e

pub returns : goal.returns
unfolding init_call init_clocks
returns c =
    let answers = c.args.answers.now in
    let told = c.init-warning.ensures.told.told (begin (head_of c.args.buffer.now)) c.args.journal.now (record { machine = c.in_ok-m.ensures.begun; journal = refl }) in
    let of_plan = ap (λ (p : Plan). init_warning p answers (begin (head_of c.args.buffer.now))) (plans _ _ c.in_ok-planned.ensures).plan_is in
    let value = c.from.ensures ∙ (by_number _ c.map_or-value.ensures ∙ (told ∙ of_plan)) in
    let both = plan_ran _ _ _ _ c.in_ok-m.ensures c.in_ok-planned.ensures (λ (p : Plan). init p answers) clocks_of (replicate 15 0)
    c.init-warning.ensures.does.ran (finishes_as value c.finish.ensures) c.clocks_after.ensures in
    record { answers = both.0; clocks_after = both.1 }
