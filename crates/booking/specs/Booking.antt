-- A booking.
use Rattle.std.specs.Prelude.{ℕ, List}
use Rattle.task.specs.declared.Task.{Task}
use Rattle.head.specs.Record.{head_of}
use Rattle.head.specs.tasks.{with_task}
use Rattle.call.specs.Call.{Left, head_call}
use Rattle.booking.specs.tests.{book_tests}

-- "A booked task goes last"
unfoldable pub book : Task → List ℕ → Left
book t b = head_call (book_tests t (head_of b)) (with_task t) b
