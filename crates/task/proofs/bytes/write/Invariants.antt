-- `task::bytes::write` meets its contract. The loop's invariant: the tasks passed stand at their places, and all else is as it was.
use mathlib.Core.Path.{◌≡◌}
use lib.ListN.{take}
use Rattle.record.specs.Items.{joined, laid}
use Rattle.layout.specs.Layout.{first_task}
use Rattle.task.specs.bytes.{task_bytes}
use Rattle.task.proofs.bytes.write.Given as goal

abbrev pub invariant-loop-i : goal.invariant-loop-i
invariant-loop-i l = l.buffer ≡ laid first_task (joined task_bytes (take l.i l.tasks)) l.initial.buffer
