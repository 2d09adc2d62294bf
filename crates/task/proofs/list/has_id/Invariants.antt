-- `task::list::has_id` meets its contract. The loop's invariant: no task passed has the id, so the answer is that of the rest.
use mathlib.Core.Path.{◌≡◌}
use lib.ListN.{drop}
use Rattle.task.specs.Task.{has_id}
use Rattle.task.proofs.list.Rest.{tasks}
use Rattle.task.proofs.list.has_id.Given as goal

abbrev pub invariant-loop-i : goal.invariant-loop-i
invariant-loop-i l = has_id l.id (drop l.i (tasks l.size l.bytes l.count)) ≡ has_id l.id (drop l.from (tasks l.size l.bytes l.count))
