-- `plan::bytes::new` meets its contract: its record is the default plan's.
use mathlib.Core.Path.{refl}
use Rattle.plan.specs.Plan.{encoded}
use Rattle.plan.proofs.bytes.new.Goals as goal

pub returns : goal.returns
unfolding encoded
returns c = refl
