-- `verdict::planned::check` meets its contract: it is refused as `admit` refuses.
use mathlib.Core.Path.{sym}
use Rattle.refusal.proofs.Exits.{handed_on}
use Rattle.verdict.proofs.planned.Plans.{refused, plans}
use Rattle.verdict.proofs.planned.check.Goals as goal

pub returns-in_err-admit : goal.returns-in_err-admit
returns-in_err-admit c = rw (handed_on _ _ c.from_residual.ensures.1) (refused _ _ c.in_err-admit.ensures)

pub returns : goal.returns
returns c = sym (plans _ _ c.in_ok-admit.ensures).accepted
