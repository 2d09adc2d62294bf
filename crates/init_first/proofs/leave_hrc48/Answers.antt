-- `init_first::leave_hrc48` meets its contract: on HRC48 without HXT48 it is refused.
use native.Mathlib.Omega.{arith}
use borrow.Author.Tests.{eq-eqb}
use Rattle.init_first.specs.First.{leave_hrc48_on, leave_hrc48}
use Rattle.journal.proofs.Does.{does_within, by_head, beside}
use Rattle.init_first.proofs.leave_hrc48.Goals as goal

pub returns : goal.returns
unfolding leave_hrc48
returns c =
    by_head leave_hrc48_on (simp (eq-eqb _ _ c.if-m-ne0.false, c.if-m.false) (does_within (omega arith) (beside c.refuse.ensures)))
