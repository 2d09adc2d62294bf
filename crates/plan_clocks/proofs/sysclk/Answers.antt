-- `plan_clocks::sysclk` meets its contract: the select picks the case of `sys_hz`.
use borrow.Author.Tests.{eq-eqb, ne_eqb}
use Rattle.plan_clocks.specs.Clocks.{sys_hz}
use Rattle.plan_clocks.proofs.sysclk.Goals as goal

pub returns-then-p-eq-DLL1 : goal.returns-then-p-eq-DLL1
unfolding sys_hz
returns-then-p-eq-DLL1 c = simp (eq-eqb _ _ c.if-p-eq-DLL1.true, c.dll_freq.ensures)

pub returns-else-p-eq-DLL1 : goal.returns-else-p-eq-DLL1
unfolding sys_hz
returns-else-p-eq-DLL1 c = simp (ne_eqb _ _ c.if-p-eq-DLL1.false)
