-- The top bit of the load check's word tells a refusal from a load.
use Prim.Native.Nat.{ℕ, ◌+◌, ◌*◌, ◌/◌, ◌<◌, ◌≤◌, ◌^◌}
use mathlib.Core.Path.{◌≡◌, refl}
use mathlib.Core.List.{List}
use lib.Dec.{ltb}
use lib.ListN.{length, get_or, drop}
use borrow.Author.Tests.{ltb-false}
use Rattle.record.specs.Bytes.{Bytes}
use Rattle.record.proofs.Items.{items_length, items_at}
use Rattle.record.proofs.Refusals.{none_refused, not_refused}
use Rattle.layout.specs.Layout.{most_tasks}
use Rattle.task.specs.Task.{no_task, InBytes}
use Rattle.task.specs.bytes.{task_in}
use Rattle.task.proofs.bytes.Laws.{bytes_drop, task_in_bytes}
use Rattle.load.proofs.Sums.{load_small}
use Rattle.load.specs.check.{listed_size, listed_tasks, check_refusal, load_check, check_word}
use Rattle.load.proofs.check.Cases.{refuses, accepts}

listed_few : (b : List ℕ) → check_refusal b ≡ 0 → length (listed_tasks b) ≤ most_tasks
unfolding check_refusal listed_tasks
listed_few b e =
    let none = none_refused _ e in
    rw items_length (ltb-false most_tasks (length b / listed_size) (not_refused 40 (ltb most_tasks (length b / listed_size)) search))

listed_in_bytes : (b : List ℕ) → Bytes b → (k : ℕ) → k < length (listed_tasks b) → InBytes (get_or (listed_tasks b) k no_task)
unfolding listed_tasks
listed_in_bytes b bytes k h =
    rw (items_at task_in listed_size (length b / listed_size) b k no_task (rw items_length at h)) (task_in_bytes (drop (listed_size * k) b) (bytes_drop b (listed_size * k) bytes))

-- clear on a load
pub load_clear : (b : List ℕ) → Bytes b → check_refusal b ≡ 0 → check_word (load_check b) < 2 ^ 63
load_clear b bytes e = rw (← accepts b e) (load_small (listed_tasks b) (listed_few b e) (listed_in_bytes b bytes))

-- set on a refusal, with its number below it
pub refusal_set : (b : List ℕ) → (check_refusal b ≡ 0 → ⊥) → check_word (load_check b) ≡ 2 ^ 63 + check_refusal b
refusal_set b z = rw (← refuses b (check_refusal b) z refl)
