-- Looking a task id up.
use Rattle.std.specs.Prelude.{ℕ, ◌+◌, ◌*◌, cond, List, [], ◌∷◌, eqb}
use Rattle.task.specs.declared.Task.{Task}
use Rattle.task.specs.declared.look_up.LookUp.{LookUp}
use Rattle.task.specs.declared.look_up.LookUp.TheVariants.{Hit, Miss}

-- a look-up in the tasks after `n` that were read without a hit
abbrev pub after : ℕ → LookUp → LookUp
after n (Hit read) = Hit (n + read)
after n (Miss read) = Miss (n + read)

-- document 02: "the walk ends at the first hit .., or after the last task. What the look-up answers says how many tasks it read: up to the
-- hit and with it, or all of them without one."
unfoldable pub look_up : ℕ → List Task → LookUp
look_up id [] = Miss 0
look_up id (t ∷ ts) = cond (eqb t.id id) (Hit 1) (after 1 (look_up id ts))

-- whether a task has the id, and how many tasks were read, in the one number that C gets: twice the tasks read, and one more on a hit
abbrev pub value_of : LookUp → ℕ
value_of (Hit read) = read * 2 + 1
value_of (Miss read) = read * 2
