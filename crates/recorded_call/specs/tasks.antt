-- What a booking, a release and a look-up leave, given an argument's bytes.
use Rattle.std.specs.Prelude.{ℕ, List, get_or}
use Rattle.task.specs.bytes.{task_in}
use Rattle.call.specs.Call.{Left}
use Rattle.booking.specs.Booking.{book}
use Rattle.booking.specs.Release.{release}
use Rattle.booking.specs.LookUp.{look_up_call}
use Rattle.recorded_call.specs.declared.tasks.Call.{Call}
use Rattle.recorded_call.specs.declared.tasks.Call.TheVariants.{Book, Release, LookUp}

-- what a call leaves of a head's buffer: a task is its nine bytes of document 01, an id one
abbrev pub result_of : Call → List ℕ → List ℕ → Left
result_of Book x b = book (task_in x) b
result_of Release x b = release (get_or x 0 0) b
result_of LookUp x b = look_up_call (get_or x 0 0) b

-- what a call leaves that is lent no journal, where one lies beside it
abbrev pub beside : List ℕ → Left → Left
beside j o = record { refusal = o.refusal; value = o.value; entries = o.entries; taken = o.taken; buffer = o.buffer; journal = j }
