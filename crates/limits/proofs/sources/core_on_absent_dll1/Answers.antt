-- `limits::sources::core_on_absent_dll1` meets its contract.
use borrow.Author.Tests.{eq-eqb, ne_eqb}
use Rattle.limits.specs.Limits.{core_on_absent_dll1}
use Rattle.limits.proofs.Absent.{none_is}
use Rattle.limits.proofs.sources.core_on_absent_dll1.Goals as goal

pub returns-then-p-eq-DLL1 : goal.returns-then-p-eq-DLL1
unfolding core_on_absent_dll1
returns-then-p-eq-DLL1 c = simp (eq-eqb _ _ c.if-p-eq-DLL1.true) (none_is _ _ c.is_none.ensures)

pub returns-else-p-eq-DLL1 : goal.returns-else-p-eq-DLL1
unfolding core_on_absent_dll1
returns-else-p-eq-DLL1 c = simp (ne_eqb _ _ c.if-p-eq-DLL1.false)
