-- `clock_lpsys::wake_and_slow` meets its contract: one step after the other.
use Rattle.journal.proofs.Does.{◌then◌, beside}
use Rattle.clock_lpsys.specs.Calls.{wake_and_slow}
use Rattle.clock_lpsys.proofs.wake_and_slow.Goals as goal

pub returns : goal.returns
unfolding wake_and_slow
returns c = c.wake.ensures then beside c.refuse_unread.ensures then c.slow_down.ensures
