-- `lpsys_wake::wake` meets its contract: one step after the other.
use Rattle.journal.proofs.Does.{◌then◌, beside}
use Rattle.lpsys_wake.specs.Wake.{wake}
use Rattle.lpsys_wake.proofs.wake.Goals as goal

pub returns : goal.returns
unfolding wake
returns c = c.wake_first.ensures then c.delay_us.ensures then c.wait_for.ensures then beside c.count_up.ensures
