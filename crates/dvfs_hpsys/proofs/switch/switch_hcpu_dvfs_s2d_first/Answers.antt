-- `dvfs_hpsys::switch::switch_hcpu_dvfs_s2d_first` meets its contract: the buck fits its register.
use Rattle.dvfs_hpsys.proofs.volts.Rows.{buck_fits}
use borrow.Author.Rules.{rules}
use Rattle.dvfs_hpsys.proofs.switch.switch_hcpu_dvfs_s2d_first.Goals as goal

pub store-requires-clause-number_bound : goal.store-requires-clause-number_bound
store-requires-clause-number_bound c = (search rules, rw (c.from.ensures, c.get_config-row.ensures) (buck_fits c.args.target).1)
