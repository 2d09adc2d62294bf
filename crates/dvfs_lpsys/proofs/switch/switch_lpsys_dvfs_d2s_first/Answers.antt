-- `dvfs_lpsys::switch::switch_lpsys_dvfs_d2s_first` meets its contract: one step after the other.
use Rattle.dvfs_lpsys.specs.switch.{lpsys_d2s_first}
use Rattle.journal.proofs.Does.{◌then◌}
use Rattle.dvfs_lpsys.proofs.switch.switch_lpsys_dvfs_d2s_first.Goals as goal

pub returns : goal.returns
unfolding lpsys_d2s_first
returns c = (rw (c.from.ensures, c.get_config-row.ensures) at c.store.ensures) then c.store-2.ensures then c.delay_us.ensures
