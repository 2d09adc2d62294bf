-- A task's share and the load of tasks.
use Rattle.std.specs.Prelude.{ℕ, ◌+◌, ◌*◌, ◌-◌, ◌/◌, cond, List, [], ◌∷◌, eqb}
use Rattle.task.specs.declared.Task.{Task}

-- "A task's share is cycles × 1,000,000 / period, rounded up." A period of 0, which no task has, gives 0.
unfoldable pub share_of : ℕ → ℕ → ℕ
share_of cycles period = cond (eqb period 0) 0 ((cycles * 1000000 + (period - 1)) / period)

-- "Load is the sum over a list of task records"
unfoldable pub load_of : List Task → ℕ
load_of [] = 0
load_of (t ∷ ts) = share_of t.cycles t.period + load_of ts
