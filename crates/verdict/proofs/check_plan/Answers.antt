-- `verdict::check_plan` meets its contract: a legal plan has a target, which is judged.
use borrow.Author.Tests.{ne_eqb}
use mathlib.Core.Path.{refl}
use Rattle.refusal.proofs.Exits.{handed_on}
use Rattle.refusal.proofs.Numbers.{not_0}
use Rattle.plan.proofs.Legal.{legal_stages}
use Rattle.verdict.specs.Verdict.{verdict_of}
use Rattle.verdict.proofs.check_plan.Goals as goal

pub sources_of-sources-requires : goal.sources_of-sources-requires
sources_of-sources-requires c = legal_stages _ c.requires

pub returns-in_err-test : goal.returns-in_err-test
unfolding verdict_of
returns-in_err-test c =
    rw (handed_on _ _ c.from_residual.ensures.1, ← c.in_err-test.ensures, ne_eqb _ _ (not_0 c.in_err-test.field-0.0)) refl

pub returns : goal.returns
unfolding verdict_of
returns c = simp (← c.in_ok-test.ensures, c.target_from-target.ensures)
