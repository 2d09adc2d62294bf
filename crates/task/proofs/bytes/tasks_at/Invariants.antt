-- `task::bytes::tasks_at` meets its contract. The loop's invariant: the places passed hold the tasks read, and the others are
-- empty.
use mathlib.Core.Path.{◌≡◌}
use lib.ListN.{drop}
use Rattle.record.specs.Items.{items}
use Rattle.task.specs.bytes.{task_in, placed}
use Rattle.task.proofs.bytes.tasks_at.Given as goal

abbrev pub invariant-loop-i : goal.invariant-loop-i
invariant-loop-i l = l.tasks ≡ placed (items task_in l.size l.i (drop l.at l.bytes)) l.i
