-- What a test of the tasks in bytes goes by: the task at its place, and the rest of them.
use Prim.Native.Nat.{ℕ, zero, suc, ◌+◌, ◌*◌, ◌<◌, ◌≤◌}
use mathlib.Core.Path.{◌≡◌, ap, sym, ◌∙◌}
use mathlib.Core.Bool.{Bool, true, false, not, ◌&&◌, ◌||◌}
use native.Mathlib.Omega.{arith}
use Rattle.std.specs.List.{list_all, range_with_len}
use mathlib.Core.List.{List, [], ◌∷◌}
use native.Mathlib.Nat.{add-zero}
use native.Mathlib.Numerals.{add-one}
use lib.Dec.{eqb}
use lib.ListN.{get_or, drop, drop_of_length-le}
use lib.Seq.{drop-cons, get_or-drop}
use Rattle.record.specs.Items.{items}
use Rattle.record.proofs.Items.{items_length, items_at}
use Rattle.task.specs.declared.Task.{Task}
use Rattle.task.specs.Task.{no_task, task_ok, all_ok, has_id, distinct}
use Rattle.task.specs.bytes.{task_in}

-- the `n` tasks in bytes, `size` bytes each
abbrev pub tasks : ℕ → List ℕ → ℕ → List Task
tasks size b n = items task_in size n b

-- a task's first byte is its id
id_at : (b : List ℕ) (at : ℕ) → (task_in (drop at b)).id ≡ get_or b at 0
unfolding task_in
id_at b at = simp (get_or-drop, add-zero)

module _ (size : ℕ) (b : List ℕ) (n i : ℕ) (l : i < n) where
  rest_step : drop i (tasks size b n) ≡ task_in (drop (size * i) b) ∷ drop (i + 1) (tasks size b n)
  rest_step = rw add-one (drop-cons (tasks size b n) i no_task (rw items_length l) ∙ rw (items_at task_in size n b i no_task l))

  all_step : all_ok (drop i (tasks size b n)) ≡ (task_ok (task_in (drop (size * i) b)) && all_ok (drop (i + 1) (tasks size b n)))
  unfolding all_ok
  all_step = ap all_ok rest_step

  pub has_step : (id : ℕ) → has_id id (drop i (tasks size b n)) ≡ (eqb (get_or b (size * i) 0) id || has_id id (drop (i + 1) (tasks size b n)))
  unfolding has_id
  has_step id = ap (has_id id) rest_step ∙ rw id_at

  pub distinct_step : distinct (drop i (tasks size b n)) ≡ (not (has_id (get_or b (size * i) 0) (drop (i + 1) (tasks size b n))) && distinct (drop (i + 1) (tasks size b n)))
  unfolding distinct
  distinct_step = ap distinct rest_step ∙ rw id_at

-- the tests of the tasks from `i` on, of which there are `k`, each by its place
module _ (size : ℕ) (b : List ℕ) (n : ℕ) where
  none_left : (i : ℕ) → i + 0 ≡ n → drop i (tasks size b n) ≡ []
  none_left i e = drop_of_length-le (tasks size b n) {i = i} (rw items_length (omega arith))

  pub all_by_place : (k i : ℕ) → i + k ≡ n → list_all (λ (j : ℕ). task_ok (task_in (drop (size * j) b))) (range_with_len i k) ≡ all_ok (drop i (tasks size b n))
  unfolding all_ok
  all_by_place zero i e = sym (ap all_ok (none_left i e))
  all_by_place (suc k) i e =
      ap (λ (r : Bool). task_ok (task_in (drop (size * i) b)) && r) (all_by_place k (i + 1) (omega arith)) ∙ sym (all_step size b n i (omega arith))

  pub has_none : (id i : ℕ) → n ≤ i → has_id id (drop i (tasks size b n)) ≡ false
  unfolding has_id
  has_none id i e = ap (has_id id) (drop_of_length-le (tasks size b n) {i = i} (rw items_length e))

  pub distinct_none : (i : ℕ) → n ≤ i → distinct (drop i (tasks size b n)) ≡ true
  unfolding distinct
  distinct_none i e = ap distinct (drop_of_length-le (tasks size b n) {i = i} (rw items_length e))
