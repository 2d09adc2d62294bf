-- `limits::dll1_core_too_slow` meets its contract.
use borrow.Author.Tests.{eq-eqb, ne_eqb}
use Rattle.limits.specs.Limits.{dll1_core_too_slow}
use Rattle.limits.proofs.dll1_core_too_slow.Goals as goal

pub returns-then-sys-eq-DLL1 : goal.returns-then-sys-eq-DLL1
unfolding dll1_core_too_slow
returns-then-sys-eq-DLL1 c = simp (eq-eqb _ _ c.if-sys-eq-DLL1.true)

pub returns-else-sys-eq-DLL1 : goal.returns-else-sys-eq-DLL1
unfolding dll1_core_too_slow
returns-else-sys-eq-DLL1 c = simp (ne_eqb _ _ c.if-sys-eq-DLL1.false)
