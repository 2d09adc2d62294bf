-- `call::word::pack` meets its contract: the counts stand above the low word.
use borrow.Author.Tests.{eq-eqb, ne_eqb}
use Rattle.call.specs.word.{packed}
use Rattle.call.proofs.word.pack.Goals as goal

pub returns-then-refusal-eq0 : goal.returns-then-refusal-eq0
unfolding packed
returns-then-refusal-eq0 c = rw (c.from.ensures, eq-eqb _ _ c.if-refusal-eq0.true)

pub returns : goal.returns
unfolding packed
returns c = rw (c.from-2.ensures, ne_eqb _ _ c.if-refusal-eq0.false)
