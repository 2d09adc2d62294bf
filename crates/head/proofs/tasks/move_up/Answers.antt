use mathlib.Core.Path.{◌≡◌}
use borrow.Author.Rules.{rules}
use native.Mathlib.Omega.{arith}
use lib.ListN.{length}
use Rattle.layout.specs.Layout.{most_tasks}
use Rattle.task.specs.Task.{no_task}
use Rattle.task.proofs.bytes.Places.{none_of_zeros}
use Rattle.head.proofs.tasks.Lists.{up_start, up_turn, up_end}
use Rattle.head.proofs.tasks.move_up.Goals as goal

pub loop-i-init : goal.loop-i-init
loop-i-init c =
    let sixteen : length c.args.tasks.now ≡ most_tasks = search rules in
    (omega arith, up_start no_task c.args.tasks.now c.args.at (omega (arith, c.requires)))

pub loop-i-preserved : goal.loop-i-preserved
loop-i-preserved c =
    let sixteen : length c.args.tasks.now ≡ most_tasks = search rules in
    let l = c.loop-i in
    (omega arith, up_turn no_task c.args.tasks.now c.args.at (omega (arith, c.requires)) l.i l.tasks l.invariant.0 (omega arith) l.invariant.1)

pub returns : goal.returns
returns c =
    let sixteen : length c.args.tasks.now ≡ most_tasks = search rules in
    let zeros = c.default.ensures in
    let none = none_of_zeros c.default.result zeros.0 zeros.1.0 zeros.1.1 in
    let end : c.loop-i.i ≡ 15 = omega arith in
    rw none (up_end no_task c.args.tasks.now c.args.at (omega (arith, c.requires)) 15 c.loop-i.tasks (omega arith) (rw end at c.loop-i.invariant.1))
