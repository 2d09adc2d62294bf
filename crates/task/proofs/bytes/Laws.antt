-- A task is read from its bytes as it was written.
use Prim.Native.Nat.{ℕ, suc, ◌+◌, ◌≤◌, ◌<◌}
use mathlib.Core.Path.{◌≡◌, refl, ap, sym, ◌∙◌}
use mathlib.Core.List.{List, [], ◌∷◌, ◌++◌}
use native.Mathlib.Omega.{arith}
use native.Mathlib.Nat.{add-zero}
use lib.ListN.{length, get_or, take, drop, set, length-drop}
use lib.Seq.{take-add, get_or-drop, drop-drop}
use Rattle.record.specs.Bytes.{Bytes}
use Rattle.record.specs.Items.{laid}
use Rattle.record.proofs.Laid.{laid_sets, laid_next}
use Rattle.layout.specs.Layout.{cycles_at, period_at, task_size}
use Rattle.task.specs.declared.Task.{Task}
use Rattle.task.specs.Task.{InBytes}
use Rattle.record.specs.Four.{four_bytes, four_in}
use Rattle.record.proofs.Four.{four_of_bytes, bytes_of_four, four_same, four_in_32}
use Rattle.task.specs.bytes.{task_in, task_bytes}

-- as many bytes as a task has in a record
pub task_length : (t : Task) → length (task_bytes t) ≡ task_size
unfolding task_bytes four_bytes
task_length t = refl

pub task_of_bytes : (t : Task) (rest : List ℕ) → InBytes t → task_in (task_bytes t ++ rest) ≡ t
unfolding task_in task_bytes four_bytes
task_of_bytes t rest h =
    rw (four_of_bytes t.cycles (four_bytes t.period ++ rest) h.cycles, four_of_bytes t.period rest h.period)

pub bytes_of_task : (b : List ℕ) → task_size ≤ length b → Bytes b → task_bytes (task_in b) ≡ take task_size b
unfolding task_in task_bytes
bytes_of_task [] h bytes = absurd (omega arith)
bytes_of_task (x ∷ b) h bytes =
    rw (
      bytes_of_four b (omega arith) (λ i. bytes (suc i)),
      bytes_of_four (drop 4 b) (rw length-drop (omega arith)) (λ i. rw get_or-drop (bytes (suc (4 + i)))),
    )
    (ap (λ (l : List ℕ). x ∷ l) (sym (take-add 4 4 b)))

-- a task is read from its own bytes only
pub task_same : (b d : List ℕ) → ((i : ℕ) → i < task_size → get_or b i 0 ≡ get_or d i 0) → task_in b ≡ task_in d
unfolding task_in
task_same b d agree = rw (agree 0 (omega arith), four cycles_at (omega arith), four period_at (omega arith))
  where
    four : (k : ℕ) → k + 4 ≤ task_size → four_in (drop k b) ≡ four_in (drop k d)
    four k h = four_same (drop k b) (drop k d) (λ i l. get_or-drop k b i 0 ∙ (agree (k + i) (omega arith) ∙ sym (get_or-drop k d i 0)))

-- a task at a place of bytes
pub task_at_lem : (b : List ℕ) (at : ℕ) → record { id = get_or b at 0; cycles = four_in (drop (at + cycles_at) b); period = four_in (drop (at + period_at) b) } ≡ task_in (drop at b)
unfolding task_in
task_at_lem b at = simp (get_or-drop, drop-drop, add-zero)

-- a task's bytes, its id, cycles and period one after the other
pub task_laid : (at : ℕ) (t : Task) (b : List ℕ) → at + task_size ≤ length b →
    laid (at + period_at) (four_bytes t.period) (laid (at + cycles_at) (four_bytes t.cycles) (set b at t.id)) ≡ laid at (task_bytes t) b
unfolding task_bytes four_bytes
task_laid at t b h =
    let id : List ℕ = t.id ∷ [] in
    rw (
      laid_sets at id b (omega arith),
      laid_next at id (four_bytes t.cycles) b (omega arith),
      laid_next at (id ++ four_bytes t.cycles) (four_bytes t.period) b (omega arith),
    )

-- a task that is read from bytes fits its bytes
pub bytes_drop : (b : List ℕ) (n : ℕ) → Bytes b → Bytes (drop n b)
bytes_drop b n bytes i = rw get_or-drop (bytes (n + i))

pub task_in_bytes : (b : List ℕ) → Bytes b → InBytes (task_in b)
unfolding task_in
task_in_bytes b bytes =
    record {
      id = bytes 0;
      cycles = four_in_32 (drop cycles_at b) (bytes_drop b cycles_at bytes);
      period = four_in_32 (drop period_at b) (bytes_drop b period_at bytes);
    }
