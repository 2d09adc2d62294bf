-- `clock_lpsys::selects::select` meets its contract: a source that is not refused fits its register.
use Rattle.clock_lpsys.specs.selects.{select}
use Rattle.clock_lpsys.proofs.selects.select.Goals as goal

pub returns : goal.returns
unfolding select
returns c = rw (c.from.ensures, c.test_source-test.ensures) at c.store_once.ensures
