-- `time::arithmetic::div` meets its contract: the test on the divisor picks the case of `quotient`.
use borrow.Author.Tests.{eq-eqb, ne_eqb}
use Rattle.time.specs.arithmetic.{quotient}
use Rattle.time.proofs.arithmetic.div.Goals as goal

pub returns-then-rhs-eq0 : goal.returns-then-rhs-eq0
unfolding quotient
returns-then-rhs-eq0 c = simp (eq-eqb _ _ c.if-rhs-eq0.true)

pub returns : goal.returns
unfolding quotient
returns c = simp (ne_eqb _ _ c.if-rhs-eq0.false)
