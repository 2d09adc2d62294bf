-- `plan::bytes::sysclk` meets its contract.
use mathlib.Core.Path.{refl}
use Rattle.plan.specs.Plan.{encoded}
use Rattle.plan.proofs.bytes.sysclk.Goals as goal

pub returns : goal.returns
unfolding encoded
returns c = refl
