-- Laws of the places of tasks.
use Prim.Native.Nat.{ℕ, ◌-◌}
use mathlib.Core.Path.{◌≡◌, ap, ◌∙◌}
use mathlib.Core.List.{List}
use lib.ListN.{length, take, drop, replicate}
use lib.Seq.{take_at}
use Rattle.record.proofs.Items.{items_length}
use Rattle.layout.specs.Layout.{most_tasks, first_task, task_size}
use Rattle.task.specs.declared.Task.{Task}
use Rattle.task.specs.Task.{no_task}
use Rattle.task.specs.bytes.{task_in, count_in, tasks_in, placed, places_in}

-- a task of zeros is a place with none
pub none_of_zeros : (t : Task) → t.id ≡ 0 → t.cycles ≡ 0 → t.period ≡ 0 → t ≡ no_task
none_of_zeros t i c p =
    let task : ℕ → ℕ → ℕ → Task = λ x y z. record { id = x; cycles = y; period = z } in
    ap (λ (n : ℕ). task n t.cycles t.period) i ∙ (ap (λ (n : ℕ). task 0 n t.period) c ∙ ap (task 0 0) p)

-- as many tasks as the count says
pub tasks_length : (b : List ℕ) → length (tasks_in b) ≡ count_in b
unfolding tasks_in
tasks_length b = items_length task_in task_size (count_in b) (drop first_task b)

-- the tasks of sixteen places are the first of them
pub placed_first : (ts : List Task) (n : ℕ) → length ts ≡ n → take n (placed ts n) ≡ ts
placed_first ts n l = take_at ts (replicate (most_tasks - n) no_task) n l

pub places_booked : (b : List ℕ) → take (count_in b) (places_in b) ≡ tasks_in b
unfolding places_in
places_booked b = placed_first (tasks_in b) (count_in b) (tasks_length b)
