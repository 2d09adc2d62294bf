-- `task::bytes::read` meets its contract: as many tasks as the record counts, from their place on.
use borrow.Author.Rules.{rules}
use Rattle.task.specs.bytes.{tasks_in, places_in}
use Rattle.task.proofs.bytes.read.Goals as goal

pub returns : goal.returns
unfolding places_in tasks_in
returns c = search rules
