-- `verdict::planned::admit` meets its contract: the bytes are decoded, then judged.
use mathlib.Core.Path.{sym}
use Rattle.refusal.proofs.Exits.{handed_on}
use Rattle.plan.proofs.bytes.RoundTrip.{read_legal}
use Rattle.verdict.proofs.planned.Plans.{planned_unread, planned_read}
use Rattle.verdict.proofs.planned.admit.Goals as goal

pub returns-in_err-plan : goal.returns-in_err-plan
returns-in_err-plan c = rw (handed_on _ _ c.from_residual.ensures.1) (planned_unread _ _ c.in_err-plan.ensures)

pub check_plan-requires : goal.check_plan-requires
check_plan-requires c = read_legal _ _ (sym c.in_ok-plan.ensures)

pub returns-in_err-target : goal.returns-in_err-target
returns-in_err-target c =
    rw (handed_on _ _ c.from_residual-in_err-target.ensures.1) (planned_read _ _ _ c.in_ok-plan.ensures c.in_err-target.ensures)

pub returns : goal.returns
returns c = planned_read _ _ _ c.in_ok-plan.ensures c.in_ok-target.ensures
