-- `lpsys_wake::wake_first` meets its contract: one step after the other.
use Rattle.journal.proofs.Does.{◌then◌}
use Rattle.lpsys_wake.specs.Wake.{wake_first}
use Rattle.lpsys_wake.proofs.wake_first.Goals as goal

pub returns : goal.returns
unfolding wake_first
returns c = c.store.ensures then c.delay_us.ensures then c.wait_for.ensures
