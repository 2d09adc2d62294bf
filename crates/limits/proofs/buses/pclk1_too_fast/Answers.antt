-- `limits::buses::pclk1_too_fast` meets its contract: the limit goes by HCLK.
use Rattle.limits.specs.Limits.{pclk1_too_fast}
use Rattle.limits.proofs.buses.pclk1_too_fast.Goals as goal
use Rattle.limits.proofs.buses.pclk1_too_fast.Goals.{then-is_fast, else-is_fast}

pub returns : goal.returns
unfolding pclk1_too_fast
returns c = elim c.if-is_fast.branch [
  | then-is_fast w ↦ simp (w.most-is, ← c.is_fast.ensures, w.if-is_fast.true)
  | else-is_fast w ↦ simp (w.most-is, ← c.is_fast.ensures, w.if-is_fast.false)
]
