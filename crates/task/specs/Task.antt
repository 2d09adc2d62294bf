-- Tasks and their rules.
use Rattle.std.specs.Prelude.{ℕ, ◌<◌, Bool, true, false, not, ◌&&◌, ◌||◌, List, [], ◌∷◌, eqb, leb}
use Rattle.task.specs.declared.Task.{Task}

-- a place with no task
abbrev pub no_task : Task
no_task = record { id = 0; cycles = 0; period = 0 }

-- 16 refuses "task id 0, cycles 0, or period outside 1 to 10,000,000"
unfoldable pub task_ok : Task → Bool
task_ok t = not (eqb t.id 0) && (not (eqb t.cycles 0) && (leb 1 t.period && leb t.period 10000000))

-- 16 refuses none of them
unfoldable pub all_ok : List Task → Bool
all_ok [] = true
all_ok (t ∷ ts) = task_ok t && all_ok ts

-- "40 id in use": one of them has the id
unfoldable pub has_id : ℕ → List Task → Bool
has_id id [] = false
has_id id (t ∷ ts) = eqb t.id id || has_id id ts

-- "no two alike"
unfoldable pub distinct : List Task → Bool
distinct [] = true
distinct (t ∷ ts) = not (has_id t.id ts) && distinct ts

-- an id of one byte, and cycles and a period of four
pub record InBytes (t : Task) : Type 0 where
  pub id : t.id < 256
  pub cycles : t.cycles < 4294967296
  pub period : t.period < 4294967296
