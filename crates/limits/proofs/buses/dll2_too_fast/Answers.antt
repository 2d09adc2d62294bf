-- `limits::buses::dll2_too_fast` meets its contract.
use Rattle.limits.specs.Limits.{dll2_too_fast}
use Rattle.limits.proofs.buses.dll2_too_fast.Goals as goal

pub returns-then-is_fast : goal.returns-then-is_fast
unfolding dll2_too_fast
returns-then-is_fast c = simp (← c.is_fast.ensures, c.if-is_fast.true)

pub returns-else-is_fast : goal.returns-else-is_fast
unfolding dll2_too_fast
returns-else-is_fast c = simp (← c.is_fast.ensures, c.if-is_fast.false)
