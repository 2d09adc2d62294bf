-- `dvfs_lpsys::switch::switch_lpsys_dvfs_s2d_second` meets its contract: one store after the other.
use Rattle.dvfs_lpsys.specs.switch.{lpsys_s2d_second}
use Rattle.journal.proofs.Does.{◌then◌}
use Rattle.dvfs_lpsys.proofs.switch.switch_lpsys_dvfs_s2d_second.Goals as goal

pub returns : goal.returns
unfolding lpsys_s2d_second
returns c = (rw c.get_config-row.ensures at c.store.ensures) then c.store-2.ensures
