-- `task::bytes::put_task` meets its contract: the id, and two numbers after it.
use mathlib.Core.Path.{◌∙◌}
use Rattle.task.proofs.bytes.Laws.{task_laid}
use native.Mathlib.Omega.{arith}
use Rattle.task.proofs.bytes.put_task.Goals as goal

pub returns : goal.returns
returns c = c.put_four-2.ensures ∙ (rw c.put_four.ensures (task_laid _ _ _ (omega arith)))
