use mathlib.Core.Path.{ap}
use lib.ListN.{replicate}
use native.Mathlib.Omega.{arith}
use Rattle.record.specs.Items.{items}
use Rattle.layout.specs.Layout.{most_tasks}
use Rattle.task.specs.Task.{no_task}
use Rattle.task.specs.bytes.{task_in}
use Rattle.record.proofs.Items.{fill_items}
use Rattle.task.proofs.bytes.Places.{none_of_zeros}
use Rattle.task.proofs.bytes.tasks_at.Goals as goal

pub loop-i-init : goal.loop-i-init
unfolding items
loop-i-init c =
    let zeros = c.default-tasks.ensures in
    let none = none_of_zeros c.default-tasks.result zeros.0 zeros.1.0 zeros.1.1 in
    ap (replicate most_tasks) none

pub loop-i-preserved : goal.loop-i-preserved
loop-i-preserved c =
    rw c.task_at.ensures
    (fill_items task_in c.args.size c.args.at c.args.bytes.now most_tasks c.loop-i.i no_task c.loop-i.tasks (omega (arith, c.requires)) c.loop-i.invariant)
