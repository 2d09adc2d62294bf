-- `plan::codes::dll_bytes_legal` meets its contract: the tests pick the case of `dll_bytes_legal`.
use borrow.Author.Tests.{eq-eqb, ne_eqb}
use Rattle.plan.specs.codes.{dll_bytes_legal}
use Rattle.plan.proofs.codes.dll_bytes_legal.Goals as goal

pub returns-then-present-eq1 : goal.returns-then-present-eq1
unfolding dll_bytes_legal
returns-then-present-eq1 c = simp (eq-eqb _ _ c.if-present-eq1.true)

pub returns-then-stage-eq0 : goal.returns-then-stage-eq0
unfolding dll_bytes_legal
returns-then-stage-eq0 c = simp (ne_eqb _ _ c.if-present-eq1.false, eq-eqb _ _ c.if-stage-eq0.true)

pub returns-else-stage-eq0 : goal.returns-else-stage-eq0
unfolding dll_bytes_legal
returns-else-stage-eq0 c = simp (ne_eqb _ _ c.if-present-eq1.false, ne_eqb _ _ c.if-stage-eq0.false)
