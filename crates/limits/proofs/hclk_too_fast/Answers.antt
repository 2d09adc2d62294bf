-- `limits::hclk_too_fast` meets its contract.
use mathlib.Core.Path.{refl}
use Rattle.limits.specs.Limits.{hclk_too_fast}
use Rattle.limits.proofs.hclk_too_fast.Goals as goal

pub returns : goal.returns
unfolding hclk_too_fast
returns c = refl
