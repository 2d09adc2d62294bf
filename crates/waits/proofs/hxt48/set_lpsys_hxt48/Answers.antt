-- `waits::hxt48::set_lpsys_hxt48` meets its contract: the flag alone changes.
use Rattle.journal.specs.Run.{with_lpsys_hxt48}
use Rattle.head.proofs.Fields.{with_ready_encodable}
use Rattle.journal.proofs.Does.{alone_ended, alone_with_head}
use Rattle.waits.proofs.hxt48.set_lpsys_hxt48.Goals as goal

pub returns-then-is_none : goal.returns-then-is_none
returns-then-is_none c = alone_with_head with_lpsys_hxt48 (with_ready_encodable c.requires _ _ _) c.if-is_none.ensures

pub returns-else-is_none : goal.returns-else-is_none
returns-else-is_none c = alone_ended _ c.requires c.if-is_none.ensures
