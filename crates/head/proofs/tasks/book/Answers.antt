-- `head::tasks::book` meets its contract: the first empty place is filled.
use Rattle.head.proofs.tasks.Holding.{more_places, more_count}
use Rattle.head.proofs.tasks.book.Goals as goal

pub returns : goal.returns
returns c =
    rw (c.from.ensures, ← more_places c.args.head.now c.requires.encodable c.args.task c.requires.count_lt_most_tasks, ← more_count c.args.head.now c.requires.encodable c.args.task)
