-- `limits::sources::core_on_dbl96` meets its contract.
use mathlib.Core.Path.{refl}
use Rattle.limits.specs.Limits.{core_on_dbl96}
use Rattle.limits.proofs.sources.core_on_dbl96.Goals as goal

pub returns : goal.returns
unfolding core_on_dbl96
returns c = refl
