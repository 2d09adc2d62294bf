-- `task::list::fit` meets its contract: what is lent of the record are the bytes from its tasks on.
use Rattle.record.proofs.Bytes.{rest_whole}
use Rattle.task.specs.bytes.{tasks_in, tasks_fit}
use Rattle.task.proofs.list.fit.Goals as goal

pub returns-then-all_ok : goal.returns-then-all_ok
unfolding tasks_fit tasks_in
returns-then-all_ok c = simp (← (rw rest_whole at c.all_ok.ensures), c.if-all_ok.true, ← (rw rest_whole at c.distinct.ensures))

pub returns-else-all_ok : goal.returns-else-all_ok
unfolding tasks_fit tasks_in
returns-else-all_ok c = simp (← (rw rest_whole at c.all_ok.ensures), c.if-all_ok.false)
