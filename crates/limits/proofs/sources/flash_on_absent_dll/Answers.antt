-- `limits::sources::flash_on_absent_dll` meets its contract.
use borrow.Author.Rules.{rules}
use Rattle.limits.specs.Limits.{flash_on_absent_dll}
use Rattle.limits.proofs.Absent.{none_is}
use Rattle.limits.proofs.sources.flash_on_absent_dll.Goals as goal

pub returns-in-1 : goal.returns-in-1
unfolding flash_on_absent_dll
returns-in-1 c = simp c.in-1.is (none_is _ _ c.is_none.ensures)

pub returns-in-2 : goal.returns-in-2
unfolding flash_on_absent_dll
returns-in-2 c = simp c.in-2.is (none_is _ _ c.is_none-in-2.ensures)

pub returns-in_default : goal.returns-in_default
unfolding flash_on_absent_dll
returns-in_default c = search rules
