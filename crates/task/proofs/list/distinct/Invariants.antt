-- `task::list::distinct` meets its contract. The loop's invariant: no task passed has the id of a later one, so the answer is that of the rest.
use mathlib.Core.Path.{◌≡◌}
use lib.ListN.{drop}
use Rattle.task.specs.Task.{distinct}
use Rattle.task.proofs.list.Rest.{tasks}
use Rattle.task.proofs.list.distinct.Given as goal

abbrev pub invariant-loop-i : goal.invariant-loop-i
invariant-loop-i l = distinct (drop l.i (tasks l.size l.bytes l.count)) ≡ distinct (tasks l.size l.bytes l.count)
