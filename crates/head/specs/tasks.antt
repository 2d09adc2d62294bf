-- The booked tasks of a head, with one more and with one less.
use Rattle.std.specs.Prelude.{ℕ, suc, cond, List, [], ◌∷◌, ◌++◌, eqb, length, take, drop}
use Rattle.task.specs.declared.Task.{Task}
use Rattle.task.specs.Task.{no_task}
use Rattle.task.specs.bytes.{placed}
use Rattle.head.specs.declared.Head.{Head}
use Rattle.head.specs.Head.{booked, with_tasks}

-- a head with the tasks `ts` booked, in that order; registers and flags as they were
abbrev pub holding : List Task → Head → Head
holding ts h = with_tasks (placed ts (length ts)) (length ts) h

-- "A booked task goes last"
abbrev pub with_task : Task → Head → Head
with_task t h = holding (booked h ++ (t ∷ [])) h

-- "a release moves the later ones up": the tasks without the one of that id
unfoldable pub without : ℕ → List Task → List Task
without id [] = []
without id (t ∷ ts) = cond (eqb t.id id) ts (t ∷ without id ts)

abbrev pub without_task : ℕ → Head → Head
without_task id h = holding (without id (booked h)) h

-- the tasks without the one at a place, the later ones moved up
abbrev pub without_place : ℕ → Head → Head
without_place at h = holding (take at (booked h) ++ drop (suc at) (booked h)) h

-- places with the one at `at` taken out, the later ones moved up and the last one empty
abbrev pub moved_up : ℕ → List Task → List Task
moved_up at ts = take at ts ++ (drop (suc at) ts ++ (no_task ∷ []))
