-- The load check.
use Rattle.std.specs.Prelude.{ℕ, ◌+◌, ◌/◌, ◌%◌, cond, not, List, [], ◌∷◌, eqb, ltb, length, Result, Ok, Err}
use Rattle.record.specs.Refusals.{refuse, first_of}
use Rattle.record.specs.Items.{items}
use Rattle.layout.specs.Layout.{most_tasks}
use Rattle.task.specs.declared.Task.{Task}
use Rattle.task.specs.Task.{all_ok, distinct}
use Rattle.task.specs.bytes.{task_in}
use Rattle.load.specs.Load.{load_of}

-- "a list of task records lent by the caller": "nine each"
abbrev pub listed_size : ℕ
listed_size = 9

unfoldable pub listed_tasks : List ℕ → List Task
listed_tasks b = items task_in listed_size (length b / listed_size) b

-- "1 (not nine each), 41, 16, 40 in that order"
unfoldable pub check_refusal : List ℕ → ℕ
check_refusal b =
    first_of
    (refuse 1 (not (eqb (length b % listed_size) 0)) ∷
    refuse 41 (ltb most_tasks (length b / listed_size)) ∷
    refuse 16 (not (all_ok (listed_tasks b))) ∷
    refuse 40 (not (distinct (listed_tasks b))) ∷ [])

-- "The load check on such bytes answers the load, or" the refusal
unfoldable pub load_check : List ℕ → Result ℕ ℕ
load_check b = cond (eqb (check_refusal b) 0) (Ok (load_of (listed_tasks b))) (Err (check_refusal b))

-- "It gets a 64-bit number: .., the top bit set on a refusal of the load check."
abbrev pub check_word : Result ℕ ℕ → ℕ
check_word (Ok load) = load
check_word (Err n) = 9223372036854775808 + n
