-- `clock::divide` meets its contract: the test on 0 picks the case of `divided`.
use borrow.Author.Tests.{eq-eqb, ne_eqb}
use Rattle.clock.specs.Clock.{divided}
use Rattle.clock.proofs.divide.Goals as goal

pub returns-then-divider-eq0 : goal.returns-then-divider-eq0
unfolding divided
returns-then-divider-eq0 c = simp (eq-eqb _ _ c.if-divider-eq0.true)

pub returns : goal.returns
unfolding divided
returns c = simp (ne_eqb _ _ c.if-divider-eq0.false, c.from.ensures)
