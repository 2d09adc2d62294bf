-- `dvfs_lpsys::switch::switch_lpsys_dvfs_s2d_first` meets its contract.
use Rattle.dvfs_lpsys.specs.switch.{lpsys_s2d_first}
use Rattle.dvfs_lpsys.proofs.switch.switch_lpsys_dvfs_s2d_first.Goals as goal

pub returns : goal.returns
unfolding lpsys_s2d_first
returns c = rw (c.from.ensures, c.get_config-config.ensures) at c.store.ensures
