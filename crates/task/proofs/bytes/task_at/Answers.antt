-- `task::bytes::task_at` meets its contract: the id, and two numbers after it.
use Rattle.task.proofs.bytes.Laws.{task_at_lem}
use Rattle.task.proofs.bytes.task_at.Goals as goal

pub returns : goal.returns
returns c = rw (c.four_at-cycles.ensures, c.four_at-period.ensures) (task_at_lem c.args.buffer.now c.args.at)
