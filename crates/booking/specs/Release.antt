-- A release.
use Rattle.std.specs.Prelude.{ℕ, not, List, [], ◌∷◌}
use Rattle.record.specs.Refusals.{refuse}
use Rattle.task.specs.Task.{has_id}
use Rattle.head.specs.declared.Head.{Head}
use Rattle.head.specs.Head.{booked}
use Rattle.head.specs.Record.{head_of}
use Rattle.head.specs.tasks.{without_task}
use Rattle.call.specs.Call.{Left, head_call}

-- "Release: 42 id unknown."
abbrev pub release_tests : ℕ → Head → List ℕ
release_tests id h = refuse 42 (not (has_id id (booked h))) ∷ []

-- "a release moves the later ones up"
unfoldable pub release : ℕ → List ℕ → Left
release id b = head_call (release_tests id (head_of b)) (without_task id) b
