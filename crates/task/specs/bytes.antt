-- The booked tasks of a head record.
use Rattle.std.specs.Prelude.{ℕ, ◌-◌, Bool, ◌&&◌, List, ◌∷◌, ◌++◌, get_or, drop, replicate}
use Rattle.record.specs.Items.{items}
use Rattle.layout.specs.Layout.{task_count_at, most_tasks, first_task, cycles_at, period_at, task_size}
use Rattle.task.specs.declared.Task.{Task}
use Rattle.task.specs.Task.{no_task, all_ok, distinct}
use Rattle.record.specs.Four.{four_in, four_bytes}

-- "per task id .., cycles and period in microseconds, four big-endian bytes each": the task at the front of bytes, and a task's bytes
unfoldable pub task_in : List ℕ → Task
task_in b = record { id = get_or b 0 0; cycles = four_in (drop cycles_at b); period = four_in (drop period_at b) }

unfoldable pub task_bytes : Task → List ℕ
task_bytes t = t.id ∷ (four_bytes t.cycles ++ four_bytes t.period)

-- "task count 0 to 16", and the tasks, booked ones only
abbrev pub count_in : List ℕ → ℕ
count_in b = get_or b task_count_at 0

unfoldable pub tasks_in : List ℕ → List Task
tasks_in b = items task_in task_size (count_in b) (drop first_task b)

-- the tasks are such that neither 16 nor 40 would refuse one
unfoldable pub tasks_fit : List ℕ → Bool
tasks_fit b = all_ok (tasks_in b) && distinct (tasks_in b)

-- sixteen places with `n` tasks at the front, the others empty
abbrev pub placed : List Task → ℕ → List Task
placed ts n = ts ++ replicate (most_tasks - n) no_task

unfoldable pub places_in : List ℕ → List Task
places_in b = placed (tasks_in b) (count_in b)
