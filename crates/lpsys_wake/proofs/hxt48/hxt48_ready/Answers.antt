-- `lpsys_wake::hxt48::hxt48_ready` meets its contract: one domain after the other.
use Rattle.journal.proofs.Does.{◌then◌}
use Rattle.lpsys_wake.specs.hxt48.{hxt48_ready}
use Rattle.lpsys_wake.proofs.hxt48.hxt48_ready.Goals as goal

pub returns : goal.returns
unfolding hxt48_ready
returns c = c.request_hxt48.ensures then c.request_lpsys_hxt48.ensures
