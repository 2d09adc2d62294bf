-- `task::rules::ok` meets its contract: each test that led to a return decides its part of the rule.
use Rattle.std.proofs.Common.{rules, tests}
use Rattle.task.specs.Task.{task_ok}
use Rattle.task.proofs.rules.ok.Goals as goal

pub returns-then-task-ne0-2 : goal.returns-then-task-ne0-2
unfolding task_ok
returns-then-task-ne0-2 c = search (rules, tests)

pub returns-else-task-ne0-2 : goal.returns-else-task-ne0-2
unfolding task_ok
returns-else-task-ne0-2 c = search (rules, tests)
