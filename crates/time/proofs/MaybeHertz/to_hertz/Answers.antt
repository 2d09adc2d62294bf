-- `time::MaybeHertz::to_hertz` meets its contract: the test on 0 picks the case of `found`.
use borrow.Author.Tests.{eq-eqb, ne_eqb}
use Rattle.time.specs.MaybeHertz.{found}
use Rattle.time.proofs.MaybeHertz.to_hertz.Goals as goal

pub returns-then-self-eq0 : goal.returns-then-self-eq0
unfolding found
returns-then-self-eq0 c = simp (eq-eqb _ _ c.if-self-eq0.true)

pub returns-else-self-eq0 : goal.returns-else-self-eq0
unfolding found
returns-else-self-eq0 c = simp (ne_eqb _ _ c.if-self-eq0.false)
